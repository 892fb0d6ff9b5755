-- A split and a join of hands make the core of a board into that after an event.
use Rattle.std.proofs.Common.{◌≡◌, ◌≢◌, ℕ, zero, suc, ◌+◌, ◌-◌, ◌*◌, ◌/◌, ◌%◌, ◌<◌, ◌≤◌, Bool, true, false, not, cond, List, [], ◌∷◌}
use Rattle.std.proofs.Common.{◌++◌, map, set, length, get_or, replicate, sym, refl, ap, ◌∙◌, subst, arith, lt-ltb, le-ltb, le-leb, ne_eqb}
use Rattle.std.proofs.Common.{mul-le-mul_right}
use Rattle.std.specs.Prelude.{slice_index, nat_eq, nat_lt}
use Rattle.std.specs.List.{list_all, list_any, range_with_len}
use Rattle.std.proofs.lemmas.List.Sums.{sum_by-cons}
use Rattle.std.proofs.lemmas.Bool.{or_from}
use native.Mathlib.Nat.{div-add-mod'}
use native.Mathlib.Decide.{dec_le}
use mathlib.Core.Logic.{dite}
use mathlib.Core.Option.{some, some-ne-none}
use mathlib.Core.List.{map-append}
use denote.Bor.{Bor}
use lib.ListN.{get_elem?}
use lib.Seq.{map-set}
use Rattle.atomic_table.specs.Table.{State as Table}
use Rattle.atomic_table.proofs.Lists.{set_else, at_map}
use Rattle.snzi_core.specs.declared.event.Event.TheVariants.{Split, Join}
use Rattle.snzi_tokens.specs.declared.token.Token.{Token}
use Rattle.snzi_core.specs.declared.holding.Holding.{Holding}
use Rattle.snzi_core.specs.declared.holding.Role.TheVariants.{Helper, Spent}
use Rattle.snzi_core.specs.Caps.{token_cap, helper_cap}
use Rattle.snzi_core.specs.Holding.{tokens_at, held, out, empty, main_weight, keeper, helper_with, rejoined}
use Rattle.snzi_core.specs.Shape.{inner, leaf, stripe, line, leaves, node_word, leaf_word}
use Rattle.snzi_core.specs.Balance.{total, mains}
use Rattle.snzi_core.specs.CoreState.{CoreState as Core, hand_of, token_of, kind_of}
use Rattle.snzi_core.specs.Lawful.{has_token, main_covers, count_at as core_count, helps, some_word, overflows, stays, is_inner}
use Rattle.snzi_core.specs.Effect.{after, counts, regrouped}
use Rattle.snzi_core.proofs.NumberLists.{total_at, at_nothing, at_without}
use Rattle.snzi_core.proofs.Hands.{at_held}
use Rattle.snzi_core.proofs.Presence.{past_end}
use Rattle.snzi_core.proofs.CoreSplits.{at_counts, length_counts}
use Rattle.snzi_core.proofs.Start.{zeros}
use Rattle.snzi_tree.specs.declared.board.View.{View}
use Rattle.snzi_tree.specs.View.{holding, BoardRule, IsBoard, kept, given, joined, spent_view}
use Rattle.snzi_tree.specs.Contents.{AllInRange, AtLeaves, count_at}
use Rattle.snzi_tree.specs.BoardEvents.{core_of, Makes, AlikeHands, Alike, CanSplit}
use Rattle.snzi_tree.proofs.StepEvents.{read_at, passed, both, no_first, no_second}
use Rattle.snzi_tree.proofs.AlikeCores.{same_hand}

-- main is the first alone
first_alone : (l : List Holding) (id : ℕ) (v : Holding) → total mains l ≡ 1 → main_weight (get_or l 0 (empty Spent)).role ≡ 1 → get_elem? l id ≡ some v → main_weight v.role ≡ 1 → id ≡ 0
first_alone [] id v one first at main = absurd (some-ne-none v (sym at))
first_alone (x ∷ xs) zero v one first at main = refl
first_alone (x ∷ xs) (suc id) v one first at main = let a = total_at mains xs id v at in absurd (omega arith)

alike_last : (l : List Holding) (c e : Holding) → AlikeHands c e → (id : ℕ) → AlikeHands (get_or (l ++ c ∷ []) id (empty Spent)) (get_or (l ++ e ∷ []) id (empty Spent))
alike_last [] c e same zero = same
alike_last [] c e same (suc id) = same_hand (empty Spent)
alike_last (x ∷ xs) c e same zero = same_hand x
alike_last (x ∷ xs) c e same (suc id) = alike_last xs c e same id

alike_lists : (l : List Holding) (a b c e : Holding) → AlikeHands a b → AlikeHands c e → (id : ℕ)
    → AlikeHands (get_or (set l 0 a ++ c ∷ []) id (empty Spent)) (get_or (set l 0 b ++ e ∷ []) id (empty Spent))
alike_lists [] a b c e first last id = alike_last [] c e last id
alike_lists (x ∷ xs) a b c e first last zero = first
alike_lists (x ∷ xs) a b c e first last (suc id) = alike_last xs c e last id

same_length : (l : List Holding) (c e : Holding) → length (l ++ c ∷ []) ≡ length (l ++ e ∷ [])
same_length [] c e = refl
same_length (x ∷ xs) c e = ap suc (same_length xs c e)

as_long : (l : List Holding) (a b c e : Holding) → length (set l 0 a ++ c ∷ []) ≡ length (set l 0 b ++ e ∷ [])
as_long [] a b c e = refl
as_long (x ∷ xs) a b c e = ap suc (same_length xs c e)

none_of : (test : ℕ → Bool) (from n : ℕ) → ((i : ℕ) → test i ≡ false) → list_any test (range_with_len from n) ≡ false
none_of test from zero none = refl
none_of test from (suc n) none = or_from (test from) (list_any test (range_with_len (from + 1) n)) (none from) (none_of test (from + 1) n none)

module _ (g w l : ℕ) (board : IsBoard g w l) (s : Table (Unit {0}) View) (r : BoardRule (g * (w + l)) w l s) where
  abbrev k : Core
  k = core_of g w s

  halves : leaves w ≡ l
  halves = let b = board.4 in omega arith

  pub is_first : (id : ℕ) (v : View) → get_elem? s.views id ≡ some v → main_weight v.holding.role ≡ 1 → id ≡ 0
  is_first id v at main = first_alone (map holding s.views) id v.holding r.1.1.0 r.2 (at_map holding s.views id v at) main

  pub first_is : (id : ℕ) (v : View) → get_elem? s.views id ≡ some v → id ≡ 0 → hand_of k 0 ≡ v.holding
  first_is id v at z = subst (λ (n : ℕ). hand_of k n ≡ v.holding) z (read_at (map holding s.views) id v.holding (empty Spent) (at_map holding s.views id v at))

  -- a share counted as the core counts it
  count_same : (i : ℕ) (share : List Token) → core_count k share i ≡ count_at w l i share
  count_same i [] = refl
  count_same i (t ∷ ts) =
      let a = sum_by-cons (λ (y : Token). cond (nat_eq (token_of k t) i) 1 0) t ts in
      sum_by-cons (λ (y : Token). cond (nat_eq (token_of k y) i) 1 0) t ts
      ∙ ap (λ (c : ℕ × ℕ). cond (nat_eq (t.slot * (w + c.0) + ((w - 1) / 2 + t.leaf)) i) 1 0 + c.1) (λ n. (halves n, count_same i ts n))

  -- no token of a share is past the last word
  none_far : (share : List Token) → AllInRange g l share → (i : ℕ) → g * (w + l) ≤ i → count_at w l i share ≡ 0
  none_far [] all i far = refl
  none_far (t ∷ ts) all i far =
      let b = board.4 in
      let low = all.0.0 in
      let right = all.0.1 in
      let m : (t.slot + 1) * (w + l) ≤ g * (w + l) = mul-le-mul_right (w + l) (omega arith) in
      let off : leaf_word w l t.slot t.leaf ≢ i = λ e. omega arith in
      let z : cond {A = ℕ} (nat_eq (leaf_word w l t.slot t.leaf) i) 1 0 ≡ 0 = ap (λ (c : Bool). cond {A = ℕ} c 1 0) (ne_eqb (leaf_word w l t.slot t.leaf) i off) in
      let rest = none_far ts all.1 i far in omega arith

  tokens_here : (share : List Token) → AllInRange g l share → list_all (has_token k) share ≡ true
  tokens_here [] all = refl
  tokens_here (t ∷ ts) all = both (has_token k t) (list_all (has_token k) ts)
      (both (nat_lt t.slot g) (nat_lt t.leaf (leaves w)) (lt-ltb t.slot g all.0.0) (lt-ltb t.leaf (leaves w) (let a = all.0.1 in let b = halves in omega arith)))
      (tokens_here ts all.1)

  covered : (share ts : List Token) → ((i : ℕ) → core_count k share i ≤ tokens_at i (hand_of k 0)) → list_all (main_covers k share) ts ≡ true
  covered share [] fits = refl
  covered share (t ∷ ts) fits =
      both (main_covers k share t) (list_all (main_covers k share) ts)
      (le-leb (core_count k share (token_of k t)) (tokens_at (token_of k t) (hand_of k 0)) (fits (token_of k t))) (covered share ts fits)

  pub split_makes : (id : ℕ) (v : View) (share : Bor (List Token)) → main_weight v.holding.role ≡ 1 → out v.holding.role < helper_cap → AllInRange g l share.now
      → ((i : ℕ) → slice_index v.plan i ≡ count_at w l i share.now) → ((i : ℕ) → slice_index v.plan i ≤ tokens_at i v.holding) → get_elem? s.views id ≡ some v
      → CanSplit k share.now × Alike (after k (Split share)) (core_of g w (record { words = s.words; homes = s.homes; views = set s.views id (kept v) ++ given v ∷ [] }))
  split_makes id v share main room all plan fits at =
      let z = is_first id v at main in
      let h = first_is id v at z in
      let out_is : out (hand_of k 0).role ≡ out v.holding.role = ap (λ (x : Holding). out x.role) h in
      let fits' : (i : ℕ) → core_count k share.now i ≤ tokens_at i (hand_of k 0) = λ (i : ℕ). let a = plan i in let b = fits i in
      let c = count_same i share.now in let d : tokens_at i (hand_of k 0) ≡ tokens_at i v.holding = ap (tokens_at i) h in omega arith in
      let counted : (i : ℕ) → slice_index (counts k share.now) i ≡ slice_index v.plan i = λ i. dite (dec_le (length k.words) i)
      (λ far. past_end (counts k share.now) i (let e = length_counts k share.now in omega arith) ∙ sym (plan i ∙ none_far share.now all i (let n = r.0 in omega arith)))
      (λ near. at_counts k share.now i (omega arith) ∙ count_same i share.now ∙ sym (plan i)) in
      let shown : map holding (set s.views id (kept v) ++ given v ∷ []) ≡ set (map holding s.views) 0 (keeper v.holding v.plan) ++ helper_with v.plan [] ∷ [] =
      map-append holding (set s.views id (kept v)) (given v ∷ []) ∙ ap (λ (hs : List Holding). hs ++ helper_with v.plan [] ∷ []) (map-set holding s.views id (kept v))
      ∙ ap (λ (n : ℕ). set (map holding s.views) n (keeper v.holding v.plan) ++ helper_with v.plan [] ∷ []) z in
      let one : AlikeHands (keeper (hand_of k 0) (counts k share.now)) (keeper v.holding v.plan) = (
        ap (λ (x : Holding). (keeper x v.plan).role) h,
        λ i. (
          let a = at_without (hand_of k 0).tokens (counts k share.now) i in let b = at_without v.holding.tokens v.plan i in
              let c = counted i in let d : tokens_at i (hand_of k 0) ≡ tokens_at i v.holding = ap (tokens_at i) h in omega arith,
          ap (λ (x : Holding). slice_index x.amounts i) h,
        ),
      ) in
      let two : AlikeHands (helper_with (counts k share.now) (replicate (length k.words) 0)) (helper_with v.plan []) = (refl, λ i. (counted i, zeros (length k.words) i ∙ sym (at_nothing i))) in (
        (tokens_here share.now all, covered share.now share.now fits', omega arith),
        (
          refl,
          refl,
          refl,
          subst (λ (hs : List Holding). length (set (map holding s.views) 0 (keeper (hand_of k 0) (counts k share.now))
              ++ helper_with (counts k share.now) (replicate (length k.words) 0) ∷ []) ≡ length hs) (sym shown)
              (as_long (map holding s.views) _ _ _ _),
          subst (λ (hs : List Holding). (n : ℕ)
              → AlikeHands (get_or (set (map holding s.views) 0 (keeper (hand_of k 0) (counts k share.now))
              ++ helper_with (counts k share.now) (replicate (length k.words) 0) ∷ []) n (empty Spent)) (get_or hs n (empty Spent)))
              (sym shown)
              (alike_lists (map holding s.views) _ _ _ _ one two),
        ),
      )

  -- a node that is no leaf
  inner_low : (i : ℕ) → (w - 1) / 2 ≤ i % (w + l) → is_inner (line w (w + l) i) ≡ false
  inner_low i far = ap (λ (t : Bool). is_inner
      (cond t (inner (i + i % (w + l) + 1) (i + i % (w + l) + 2)) (cond (nat_lt (i % (w + l)) w) leaf stripe)))
      (le-ltb (i % (w + l) + i % (w + l) + 2) w (let o = board.0.0 in omega arith)) ∙ by_test (nat_lt (i % (w + l)) w)
    where
      by_test : (t : Bool) → is_inner (cond t leaf stripe) ≡ false
      by_test true = refl
      by_test false = refl

  pub join_makes : (id other : ℕ) (v u : View) → main_weight v.holding.role ≡ 1 → u.holding.role ≡ Helper
      → held v.holding + held u.holding ≤ token_cap → AtLeaves w l u.holding → get_elem? s.views id ≡ some v → ¬ (other ≡ id)
      → get_elem? (set s.views id (joined v u)) other ≡ some u
      → Makes (Join other) k (core_of g w (record { words = s.words; homes = s.homes; views = set (set s.views id (joined v u)) other spent_view }))
  join_makes id other v u main helper room tidy at apart there =
      let z = is_first id v at main in
      let h = first_is id v at z in
      let there' : get_elem? s.views other ≡ some u = sym (set_else s.views id other (joined v u) apart) ∙ there in
      let o : hand_of k other ≡ u.holding = read_at (map holding s.views) other u.holding (empty Spent) (at_map holding s.views other u there') in
      let together : (i : ℕ) → overflows k other i ≡ false = λ (i : ℕ). let a = at_held v.holding i in let b = at_held u.holding i in
      let c : tokens_at i (hand_of k 0) ≡ tokens_at i v.holding = ap (tokens_at i) h in
      let d : tokens_at i (hand_of k other) ≡ tokens_at i u.holding = ap (tokens_at i) o in
      le-ltb 1099511627776 (tokens_at i (hand_of k 0) + tokens_at i (hand_of k other)) (omega arith) in
      let left : (i : ℕ) → stays k other i ≡ false = λ (i : ℕ). dite (dec_le ((w - 1) / 2) (i % (w + l)))
      (λ far. no_first (is_inner (kind_of k i)) (nat_lt 0 (tokens_at i (hand_of k other))) (ap (λ (n : ℕ). is_inner (line w (w + n) i)) halves ∙ inner_low i far))
      (λ near. no_second (is_inner (kind_of k i)) (nat_lt 0 (tokens_at i (hand_of k other)))
      (le-ltb 0 (tokens_at i (hand_of k other)) (let a = tidy (i / (w + l)) (i % (w + l)) (omega arith) in
      let b : tokens_at (node_word w l (i / (w + l)) (i % (w + l))) u.holding ≡ tokens_at i u.holding =
      ap (λ (n : ℕ). tokens_at n u.holding) (div-add-mod' i (w + l)) in let d : tokens_at i (hand_of k other) ≡ tokens_at i u.holding =
      ap (tokens_at i) o in omega arith))) in
      let shown : map holding (set (set s.views id (joined v u)) other spent_view) ≡ set (set (map holding s.views) id (rejoined v.holding u.holding)) other (empty Spent) =
      map-set holding (set s.views id (joined v u)) other spent_view ∙ ap (λ (hs : List Holding). set hs other (empty Spent)) (map-set holding s.views id (joined v u)) in (
        passed (not (helps (hand_of k other).role)) _ _ (ap (λ (x : Holding). not (helps x.role)) o ∙ ap (λ (x : _). not (helps x)) helper)
            (passed (some_word k (overflows k other)) _ _ (none_of (overflows k other) 0 (length s.words) together)
            (passed (some_word k (stays k other)) _ _ (none_of (stays k other) 0 (length s.words) left) refl)),
        ap (λ (t : ℕ × Holding × Holding). regrouped k (set (set (map holding s.views) t.0 (rejoined t.1 t.2)) other (empty Spent))) (λ n. (sym z n, h n, o n))
            ∙ ap (λ (hs : List Holding). record { slots = g; nodes = w; words = s.words; hands = hs }) (sym shown),
      )
