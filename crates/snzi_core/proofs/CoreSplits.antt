-- A core after a split.
use Rattle.std.proofs.Common.{◌≡◌, ℕ, zero, suc, ◌+◌, ◌<◌, ◌≤◌, Bool, true, false, cond, List, [], ◌∷◌, ◌++◌, length, set, get_or}
use Rattle.std.proofs.Common.{replicate, refl, sym, ap, ◌∙◌, subst, arith, true≢false, length-set, length-append, length-take-le, take}
use Rattle.std.proofs.Common.{None, leb-true, ltb-true, eq-eqb, ne_eqb}
use Rattle.std.proofs.lemmas.List.{length-replicate}
use Rattle.std.proofs.lemmas.List.FromFn.{get_or-map-range_with_len, length-map-range_with_len}
use Rattle.std.proofs.lemmas.List.Sums.{sum_by-cons, sum_by_more, count_by-le-length}
use Rattle.std.proofs.lemmas.Grind.{same_number_lists}
use Rattle.std.specs.Prelude.{slice_index, nat_eq, nat_lt, nat_le}
use Rattle.std.specs.List.{list_all}
use Rattle.std.proofs.lemmas.Bool.{not-false, and_parts, or_parts, leb-false}
use mathlib.Core.Logic.{dite}
use native.Mathlib.Decide.{ℕ_discrete, dec_le}
use Rattle.snzi_tokens.specs.declared.token.Token.{Token}
use Rattle.snzi_core.specs.declared.holding.Holding.{Holding}
use Rattle.snzi_core.specs.declared.holding.Role.{Role}
use Rattle.snzi_core.specs.declared.holding.Role.TheVariants.{Main, Helper, Spent}
use Rattle.snzi_core.specs.Holding.{empty, main_weight, out, tokens_at, keeper, helper_with, put, gain}
use Rattle.snzi_core.specs.Shape.{leaves}
use Rattle.snzi_core.specs.Changes.{Parts}
use Rattle.snzi_core.specs.CoreState.{CoreState, hand_of, kind_of, above, span, token_of, fresh}
use Rattle.snzi_core.specs.Lawful.{lives, has_token, count_at, main_covers, main_has, is_crowded, refuses_split}
use Rattle.snzi_core.specs.Effect.{counts, regrouped, split_off}
use Rattle.snzi_core.specs.Kept.{HasTables, IsCore}
use Rattle.snzi_core.proofs.NumberLists.{at_put_same, at_put_else, put_length}
use Rattle.snzi_core.proofs.TableRewrites.{length_without}
use Rattle.snzi_core.proofs.Presence.{past_end}
use Rattle.snzi_core.proofs.Shapes.{is_family}
use Rattle.snzi_core.proofs.Muster.{each_set, each_at, each_snoc}
use Rattle.snzi_core.proofs.SplitBalance.{split_law, one_out_main}
use Rattle.snzi_core.proofs.Start.{zeros}
use Rattle.snzi_core.proofs.Hands.{parts}
use Rattle.snzi_core.proofs.CoreSteps.{live_at, shape_of}
use Rattle.snzi_core.proofs.Lawfulness.{refuse_none}

-- what a split without a refusal tells
pub split_lawful : (k : CoreState) (share : List Token) → refuses_split k share ≡ None → (list_all (has_token k) share ≡ true) × (main_has k share ≡ true) × (is_crowded k ≡ false)
split_lawful k share e =
    let a = refuse_none _ _ _ e in let b = refuse_none _ _ _ a.1 in let c = refuse_none _ _ _ b.1 in
    (not-false (list_all (has_token k) share) a.0, not-false (main_has k share) b.0, c.0)

pub split_room : (k : CoreState) → is_crowded k ≡ false → (out (hand_of k 0).role < 65535) × (length k.hands < 4294967295)
split_room k e =
    let n = or_parts (nat_le 65535 (out (hand_of k 0).role)) (nat_le 4294967295 (length k.hands)) e in
    (leb-false 65535 (out (hand_of k 0).role) n.0, leb-false 4294967295 (length k.hands) n.1)

main_lives : (r : Role) → main_weight r ≡ 1 → lives r ≡ true
main_lives (Main n) e = refl
main_lives Helper e = refl
main_lives Spent e = absurd (omega arith)

pub main_live : (k : CoreState) → IsCore k → lives (hand_of k 0).role ≡ true
main_live k c = main_lives (hand_of k 0).role c.main

count_cons : (k : CoreState) (t : Token) (ts : List Token) (i : ℕ) → count_at k (t ∷ ts) i ≡ cond (nat_eq (token_of k t) i) 1 0 + count_at k ts i
count_cons k t ts i = sum_by-cons (λ (x : Token). cond (nat_eq (token_of k x) i) 1 0) t ts

module _ (k : CoreState) (share : List Token) where
  -- a share's tokens at a word are bounded by main's, where one of them is there
  covers : (i : ℕ) (ts : List Token) → list_all (main_covers k share) ts ≡ true → 0 < count_at k ts i → count_at k share i ≤ tokens_at i (hand_of k 0)
  covers i [] all p = absurd (omega arith)
  covers i (t ∷ ts) all p =
      let b = and_parts (main_covers k share t) (list_all (main_covers k share) ts) all in
      dite (ℕ_discrete (token_of k t) i)
      (λ e. subst (λ (m : ℕ). count_at k share m ≤ tokens_at m (hand_of k 0)) e (leb-true (count_at k share (token_of k t)) (tokens_at (token_of k t) (hand_of k 0)) b.0))
      (λ ne. covers i ts b.1 (let c = count_cons k t ts i in
      let z : cond {A = ℕ} (nat_eq (token_of k t) i) 1 0 ≡ 0 = ap (λ (x : Bool). cond {A = ℕ} x 1 0) (ne_eqb (token_of k t) i ne) in
      omega arith))

  pub at_counts : (i : ℕ) → i < length k.words → slice_index (counts k share) i ≡ count_at k share i
  at_counts i h = get_or-map-range_with_len (count_at k share) 0 (length k.words) i i 0 h (omega arith)

  pub length_counts : length (counts k share) ≡ length k.words
  length_counts = length-map-range_with_len (count_at k share) 0 (length k.words)

  pub fits : main_has k share ≡ true → (i : ℕ) → slice_index (counts k share) i ≤ tokens_at i (hand_of k 0)
  fits has i = dite (dec_le (length k.words) i)
      (λ far. let l = length_counts in let z = past_end (counts k share) i (omega arith) in omega arith)
      (λ near. let is = at_counts i (omega arith) in dite (ℕ_discrete (count_at k share i) 0)
      (λ z. omega arith)
      (λ p. let c = covers i share has (omega arith) in omega arith))

  module _ (c : IsCore k) (has : main_has k share ≡ true) where
    main : Holding
    main = hand_of k 0

    shared : Parts (hand_of k 0) (keeper (hand_of k 0) (counts k share)) (helper_with (counts k share) (replicate (length k.words) 0))
    shared = parts (hand_of k 0) (counts k share) (replicate (length k.words) 0) c.main (fits has) (zeros (length k.words))

    keeper_tables : HasTables (length k.words) (keeper (hand_of k 0) (counts k share))
    keeper_tables _ = let t =
        each_at (HasTables (length k.words)) k.hands 0 (hand_of k 0) c.tables (live_at k.hands 0 (main_live k c)) (main_live k c) in
        (length_without (hand_of k 0).tokens (counts k share) ∙ t.0, t.1)

    first_is : (hands : List Holding) (x y : Holding) → lives (get_or hands 0 (empty Spent)).role ≡ true → get_or (set hands 0 x ++ y ∷ []) 0 (empty Spent) ≡ x
    first_is [] x y e = absurd (true≢false (sym e))
    first_is (h ∷ hs) x y e = refl

    pub split_core : is_crowded k ≡ false → IsCore (split_off k share)
    split_core crowded = record {
      odd = c.odd;
      words = c.words;
      main = ap (λ (h : Holding). main_weight h.role)
          (first_is k.hands (keeper (hand_of k 0) (counts k share)) (helper_with (counts k share) (replicate (length k.words) 0))
          (main_live k c)) ∙ one_out_main (hand_of k 0).role ∙ c.main;
      made = let a = length-append (set k.hands 0 (keeper (hand_of k 0) (counts k share)))
          (helper_with (counts k share) (replicate (length k.words) 0) ∷ []) in
          let b = length-set k.hands 0 (keeper (hand_of k 0) (counts k share)) in let r = (split_room k crowded).1 in omega arith;
      tables = each_snoc (HasTables (length k.words)) (set k.hands 0 (keeper (hand_of k 0) (counts k share)))
          (helper_with (counts k share) (replicate (length k.words) 0))
          (each_set (HasTables (length k.words)) k.hands 0 (keeper (hand_of k 0) (counts k share)) c.tables keeper_tables)
          (λ _. (length_counts, length-replicate (length k.words) 0));
      rule = split_law (kind_of k) (above k) (is_family k.nodes (span k) (shape_of k c)) k.words k.hands 0 (hand_of k 0)
          (live_at k.hands 0 (main_live k c)) (keeper (hand_of k 0) (counts k share))
          (helper_with (counts k share) (replicate (length k.words) 0)) shared (split_room k crowded).0 c.rule;
    }

-- the tokens of the share so far, and one more
module _ (k : CoreState) (share : List Token) where
  pub counts_none : counts k (take 0 share) ≡ replicate (length k.words) 0
  counts_none = same_number_lists (counts k (take 0 share)) (replicate (length k.words) 0) (length_counts k (take 0 share) ∙ sym (length-replicate (length k.words) 0))
      (λ i h. let l = length_counts k (take 0 share) in at_counts k (take 0 share) i (omega arith) ∙ sym (zeros (length k.words) i))

  -- a helper with none of the share
  pub share_none : (h : Holding) (n : ℕ) → h ≡ fresh n Helper → n ≡ length k.words → h ≡ helper_with (counts k (take 0 share)) (replicate (length k.words) 0)
  share_none h n is len = is ∙ ap (λ (m : ℕ). fresh m Helper) len ∙ ap (λ (l : List ℕ). helper_with l (replicate (length k.words) 0)) (sym counts_none)

  counts_at : (i m : ℕ) (d : Token) → m < length share → count_at k (take (m + 1) share) i ≡ count_at k (take m share) i + cond (nat_eq (token_of k (get_or share m d)) i) 1 0
  counts_at i m d h = sum_by_more (λ (x : Token). cond (nat_eq (token_of k x) i) 1 0) share m d h

  pub counts_more : (m j : ℕ) (d : Token) → m < length share → j ≡ token_of k (get_or share m d) → j < length k.words
      → put (counts k (take m share)) j (slice_index (counts k (take m share)) j + 1) ≡ counts k (take (m + 1) share)
  counts_more m j d h word inside = same_number_lists (put (counts k (take m share)) j (slice_index (counts k (take m share)) j + 1)) (counts k (take (m + 1) share)) lengths each
    where
      first : j < length (counts k (take m share))
      first = let l = length_counts k (take m share) in omega arith

      lengths : length (put (counts k (take m share)) j (slice_index (counts k (take m share)) j + 1)) ≡ length (counts k (take (m + 1) share))
      lengths = put_length (counts k (take m share)) j (slice_index (counts k (take m share)) j + 1) first ∙ length_counts k (take m share) ∙ sym (length_counts k (take (m + 1) share))

      test : (i : ℕ) → cond {A = ℕ} (nat_eq (token_of k (get_or share m d)) i) 1 0 ≡ cond {A = ℕ} (nat_eq j i) 1 0
      test i = ap (λ (x : ℕ). cond {A = ℕ} (nat_eq x i) 1 0) (sym word)

      each : (i : ℕ) → i < length (put (counts k (take m share)) j (slice_index (counts k (take m share)) j + 1))
          → slice_index (put (counts k (take m share)) j (slice_index (counts k (take m share)) j + 1)) i
          ≡ slice_index (counts k (take (m + 1) share)) i
      each i g =
          let l = length_counts k (take (m + 1) share) in
          let e = lengths in
          let near : i < length k.words = omega arith in
          let new = at_counts k (take (m + 1) share) i near in
          let old = at_counts k (take m share) i near in
          let more = counts_at i m d h in
          let same = test i in
          dite (ℕ_discrete i j)
          (λ i_is.
          let z : cond {A = ℕ} (nat_eq j i) 1 0 ≡ 1 = ap (λ (x : Bool). cond {A = ℕ} x 1 0) (eq-eqb j i (sym i_is)) in
          let a : slice_index (put (counts k (take m share)) j (slice_index (counts k (take m share)) j + 1)) i
          ≡ slice_index (counts k (take m share)) i + 1 =
          subst (λ (x : ℕ). slice_index (put (counts k (take m share)) j (slice_index (counts k (take m share)) j + 1)) x
          ≡ slice_index (counts k (take m share)) x
          + 1) (sym i_is) (at_put_same (counts k (take m share)) j (slice_index (counts k (take m share)) j + 1)) in
          omega arith)
          (λ off.
          let z : cond {A = ℕ} (nat_eq j i) 1 0 ≡ 0 = ap (λ (x : Bool). cond {A = ℕ} x 1 0) (ne_eqb j i (λ e. off (sym e))) in
          let a = at_put_else (counts k (take m share)) j i (slice_index (counts k (take m share)) j + 1) off in
          omega arith)

  -- a helper with the share so far takes one token more
  pub share_more : (m j : ℕ) (d : Token) (h : Holding) → h ≡ helper_with (counts k (take m share)) (replicate (length k.words) 0)
      → m < length share → j ≡ token_of k (get_or share m d) → j < length k.words
      → gain h j ≡ helper_with (counts k (take (m + 1) share)) (replicate (length k.words) 0)
  share_more m j d h was inside word low = ap (λ (x : Holding). gain x j) was ∙ ap (λ (l : List ℕ). helper_with l (replicate (length k.words) 0)) (counts_more m j d inside word low)

  -- there is room for one more token of a share
  pub share_room : (m j : ℕ) (h : Holding) → h ≡ helper_with (counts k (take m share)) (replicate (length k.words) 0) → j < length k.words
      → m < length share → (j < length h.tokens) × (tokens_at j h ≤ m)
  share_room m j h was low inside =
      let e : length h.tokens ≡ length (counts k (take m share)) = ap (λ (x : Holding). length x.tokens) was in
      let l = length_counts k (take m share) in
      let f : tokens_at j h ≡ slice_index (counts k (take m share)) j = ap (λ (x : Holding). tokens_at j x) was in
      let a = at_counts k (take m share) j low in
      let b = count_by-le-length (λ (x : Token). nat_eq (token_of k x) j) (take m share) in
      let t = length-take-le m share in
      (omega arith, omega arith)

  -- each token of the share is in the shape
  pub token_inside : (m : ℕ) (d : Token) → list_all (has_token k) share ≡ true → m < length share → ((get_or share m d).slot < k.slots) × ((get_or share m d).leaf < leaves k.nodes)
  token_inside m d all h =
      let b = and_parts (nat_lt (get_or share m d).slot k.slots) (nat_lt (get_or share m d).leaf (leaves k.nodes)) (all_at share m d all h) in
      (ltb-true (get_or share m d).slot k.slots b.0, ltb-true (get_or share m d).leaf (leaves k.nodes) b.1)
    where
      all_at : (ts : List Token) (m : ℕ) (d : Token) → list_all (has_token k) ts ≡ true → m < length ts → has_token k (get_or ts m d) ≡ true
      all_at [] m d e h = absurd (omega arith)
      all_at (x ∷ xs) zero d e h = (and_parts (has_token k x) (list_all (has_token k) xs) e).0
      all_at (x ∷ xs) (suc m) d e h = all_at xs m d (and_parts (has_token k x) (list_all (has_token k) xs) e).1 (omega arith)

-- main gave the share, and the helper stands behind the other hands
pub split_is : (k now : CoreState) (share : List Token) (v h g : Holding) → k ≡ now → v ≡ hand_of now 0 → h ≡ helper_with (counts now share) (replicate (length now.words) 0) → g ≡ keeper v h.tokens
    → regrouped k (set k.hands 0 g ++ h ∷ []) ≡ split_off now share
split_is k now share v h g same main is gave =
    ap (λ (y : Holding × Holding). regrouped k (set k.hands 0 y.0 ++ y.1 ∷ [])) (λ i. (
      (gave ∙ ap (λ (x : Holding). keeper x h.tokens) main
          ∙ ap (λ (x : Holding). keeper (hand_of now 0) x.tokens) is) i,
      is i,
    ))
    ∙ ap (λ (s : CoreState). regrouped s (set s.hands 0 (keeper (hand_of now 0) (counts now share)) ++ helper_with (counts now share) (replicate (length now.words) 0) ∷ [])) same
