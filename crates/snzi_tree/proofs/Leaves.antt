-- What a hand has at leaves, after one token more or less.
use Rattle.std.proofs.Common.{◌≡◌, ◌≢◌, ℕ, zero, suc, ◌+◌, ◌-◌, ◌*◌, ◌/◌, ◌<◌, ◌≤◌, ◌&&◌, Bool, true, false, cond, List, sym, refl, ap, ◌∙◌, subst, arith, lt-ltb, le-ltb, eqb, eq-eqb, ne_eqb}
use Rattle.std.specs.Prelude.{slice_index}
use mathlib.Core.Logic.{dite}
use native.Mathlib.Decide.{ℕ_discrete, dec_le}
use Rattle.snzi_core.specs.declared.holding.Holding.{Holding}
use Rattle.snzi_tokens.specs.declared.token.Token.{Token}
use Rattle.snzi_core.specs.Holding.{added, put, held}
use Rattle.snzi_core.proofs.NumberLists.{at_put_else, added_put}
use Rattle.snzi_core.specs.Changes.{Gains, Loses}
use Rattle.snzi_core.specs.Shape.{node_word, leaf_word}
use Rattle.snzi_tokens.specs.Listed.{one_at, over_leaves}
use Rattle.snzi_tree.specs.Contents.{content_of, tokens_in, AtLeaves, HasIn, token_word}
use Rattle.snzi_tree.proofs.WordPlaces.{leaf_same, leaf_not_above}

-- one token at one place
pub one_here : (s j slot leaf : ℕ) → slot ≡ s → leaf ≡ j → one_at slot leaf s j ≡ 1
one_here s j slot leaf p q = ap (λ (t : Bool). cond (t && eqb leaf j) 1 0) (eq-eqb slot s p) ∙ ap (λ (t : Bool). cond t 1 0) (eq-eqb leaf j q)

pub one_slot : (s j slot leaf : ℕ) → slot ≢ s → one_at slot leaf s j ≡ 0
one_slot s j slot leaf p = ap (λ (t : Bool). cond (t && eqb leaf j) 1 0) (ne_eqb slot s p)

abbrev one_if : Bool → ℕ
one_if t = cond t 1 0

and_false : (t : Bool) → one_if (t && false) ≡ 0
and_false true = refl
and_false false = refl

pub one_leaf : (s j slot leaf : ℕ) → leaf ≢ j → one_at slot leaf s j ≡ 0
one_leaf s j slot leaf p = ap (λ (t : Bool). cond (eqb slot s && t) 1 0) (ne_eqb leaf j p) ∙ and_false (eqb slot s)

-- sums over leaves
pub over_same : (n : ℕ) (f g : ℕ → ℕ) → ((j : ℕ) → f j ≡ g j) → over_leaves n f ≡ over_leaves n g
over_same zero f g e = refl
over_same (suc n) f g e = let a = over_same n f g e in let b = e n in omega arith

pub over_added : (n : ℕ) (f g : ℕ → ℕ) → over_leaves n (λ j. f j + g j) ≡ over_leaves n f + over_leaves n g
over_added zero f g = refl
over_added (suc n) f g = let a = over_added n f g in omega arith

over_none : (n s slot leaf : ℕ) → n ≤ leaf → over_leaves n (one_at slot leaf s) ≡ 0
over_none zero s slot leaf h = refl
over_none (suc n) s slot leaf h = let a = over_none n s slot leaf (omega arith) in let b = one_leaf s n slot leaf (λ e. omega arith) in omega arith

-- 1 at the slot, and 0 elsewhere
abbrev pub one_in : ℕ → ℕ → ℕ
one_in slot s = cond (eqb slot s) 1 0

pub over_one : (n s slot leaf : ℕ) → leaf < n → over_leaves n (one_at slot leaf s) ≡ one_in slot s
over_one zero s slot leaf h = absurd (omega arith)
over_one (suc n) s slot leaf h = dite (ℕ_discrete leaf n)
    (λ e.
    let a = over_none n s slot leaf (omega arith) in
    dite (ℕ_discrete slot s)
    (λ p. let b = one_here s n slot leaf p e in let c : one_in slot s ≡ 1 = ap (λ (t : Bool). cond t 1 0) (eq-eqb slot s p) in omega arith)
    (λ p. let b = one_slot s n slot leaf p in let c : one_in slot s ≡ 0 = ap (λ (t : Bool). cond t 1 0) (ne_eqb slot s p) in omega arith))
    (λ ne. let a = over_one n s slot leaf (omega arith) in let b = one_leaf s n slot leaf ne in omega arith)

pub over_at : (n : ℕ) (f : ℕ → ℕ) (j : ℕ) → j < n → f j ≤ over_leaves n f
over_at zero f j h = absurd (omega arith)
over_at (suc n) f j h = dite (ℕ_discrete j n)
    (λ e. let a : f j ≡ f n = ap f e in omega arith)
    (λ ne. let a = over_at n f j (omega arith) in omega arith)

pub over_some : (n : ℕ) (f : ℕ → ℕ) → 0 < over_leaves n f → (j : ℕ) × (j < n) × (0 < f j)
over_some zero f h = absurd (omega arith)
over_some (suc n) f h = dite (ℕ_discrete (f n) 0)
    (λ z. let r = over_some n f (omega arith) in let low = r.1 in (r.0, omega arith, r.2))
    (λ nz. (n, omega arith, omega arith))

-- as many places side by side have at most what the list has
side_by_side : (n : ℕ) (xs : List ℕ) (a : ℕ) (f : ℕ → ℕ) → ((j : ℕ) → j < n → f j ≡ slice_index xs (a + j)) → over_leaves n f ≤ added xs
side_by_side zero xs a f is = omega arith
side_by_side (suc n) xs a f is =
    let ys = put xs (a + n) 0 in
    let rest = side_by_side n ys a f (λ j h. is j (omega arith) ∙ sym (at_put_else xs (a + n) (a + j) 0 (λ e. omega arith))) in
    let all = added_put xs (a + n) 0 in
    let last = is n (omega arith) in omega arith

module _ (w l : ℕ) where
  pub inside : (h : Holding) (s j : ℕ) → j < l → content_of w l h s j ≡ slice_index h.tokens (leaf_word w l s j)
  inside h s j p = ap (λ (t : Bool). cond t (slice_index h.tokens (leaf_word w l s j)) 0) (lt-ltb j l p)

  pub outside : (h : Holding) (s j : ℕ) → l ≤ j → content_of w l h s j ≡ 0
  outside h s j p = ap (λ (t : Bool). cond t (slice_index h.tokens (leaf_word w l s j)) 0) (le-ltb j l p)

  -- the tokens at a slot are among those held
  pub in_held : (h : Holding) (s : ℕ) → tokens_in w l h s ≤ held h
  in_held h s =
      let p : ℕ = s * (w + l) in
      let half : ℕ = (w - 1) / 2 in
      side_by_side l h.tokens (p + half) (content_of w l h s) (λ j below.
      let e : p + (half + j) ≡ p + half + j = omega arith in
      inside h s j below ∙ ap (slice_index h.tokens) e)

module _ (w l : ℕ) (shape : l + l ≡ w + 1) where
  pub gains_content : (h k : Holding) (t : Token) → t.leaf < l → Gains (token_word w l t) h k → (s j : ℕ) → content_of w l k s j ≡ content_of w l h s j + one_at t.slot t.leaf s j
  gains_content h k t below g s j = dite (dec_le (suc j) l)
      (λ p.
      let a = inside w l k s j p in
      let b = inside w l h s j p in
      dite (ℕ_discrete t.slot s)
      (λ e. dite (ℕ_discrete t.leaf j)
      (λ f.
      let c = one_here s j t.slot t.leaf e f in
      let place : leaf_word w l s j ≡ token_word w l t = ap (λ (z : ℕ × ℕ). leaf_word w l z.0 z.1) (λ i. (sym e i, sym f i)) in
      let d = subst (λ (i : ℕ). slice_index k.tokens i ≡ slice_index h.tokens i + 1) (sym place) g.0 in omega arith)
      (λ f.
      let c = one_leaf s j t.slot t.leaf f in
      let d = g.1 (leaf_word w l s j) (λ q. f (sym (leaf_same w l shape s t.slot j t.leaf p below q).1)) in omega arith))
      (λ e.
      let c = one_slot s j t.slot t.leaf e in
      let d = g.1 (leaf_word w l s j) (λ q. e (sym (leaf_same w l shape s t.slot j t.leaf p below q).0)) in omega arith))
      (λ p.
      let a = outside w l k s j (omega arith) in
      let b = outside w l h s j (omega arith) in
      let c = one_leaf s j t.slot t.leaf (λ e. omega arith) in omega arith)

  -- what is lost one way is gained the other
  turned : (h k : Holding) (i : ℕ) → Loses i h k → Gains i (record { role = h.role; tokens = k.tokens; amounts = h.amounts }) (record { role = h.role; tokens = h.tokens; amounts = h.amounts })
  turned h k i g = (sym g.0, (λ j off. sym (g.1 j off)), sym g.2, refl, refl)

  pub loses_content : (h k : Holding) (t : Token) → t.leaf < l → Loses (token_word w l t) h k → (s j : ℕ) → content_of w l k s j + one_at t.slot t.leaf s j ≡ content_of w l h s j
  loses_content h k t below g s j =
      sym (gains_content (record { role = h.role; tokens = k.tokens; amounts = h.amounts }) (record {
        role = h.role;
        tokens = h.tokens;
        amounts = h.amounts;
      }) t below (turned h k (token_word w l t) g) s j)

  pub gains_in : (h k : Holding) (t : Token) → t.leaf < l → Gains (token_word w l t) h k → (s : ℕ) → tokens_in w l k s ≡ tokens_in w l h s + one_in t.slot s
  gains_in h k t below g s =
      over_same l (content_of w l k s) (λ j. content_of w l h s j + one_at t.slot t.leaf s j) (gains_content h k t below g s)
      ∙ over_added l (content_of w l h s) (one_at t.slot t.leaf s)
      ∙ ap (λ (n : ℕ). tokens_in w l h s + n) (over_one l s t.slot t.leaf below)

  pub loses_in : (h k : Holding) (t : Token) → t.leaf < l → Loses (token_word w l t) h k → (s : ℕ) → tokens_in w l k s + one_in t.slot s ≡ tokens_in w l h s
  loses_in h k t below g s =
      sym (gains_in (record { role = h.role; tokens = k.tokens; amounts = h.amounts }) (record {
        role = h.role;
        tokens = h.tokens;
        amounts = h.amounts;
      }) t below (turned h k (token_word w l t) g) s)

  pub gains_leaves : (h k : Holding) (t : Token) → t.leaf < l → Gains (token_word w l t) h k → AtLeaves w l h → AtLeaves w l k
  gains_leaves h k t below g tidy s n p = g.1 (node_word w l s n) (leaf_not_above w l shape s t.slot n t.leaf p below) ∙ tidy s n p

  pub loses_leaves : (h k : Holding) (t : Token) → t.leaf < l → Loses (token_word w l t) h k → AtLeaves w l h → AtLeaves w l k
  loses_leaves h k t below g tidy s n p = g.1 (node_word w l s n) (leaf_not_above w l shape s t.slot n t.leaf p below) ∙ tidy s n p

  -- a hand whose tokens stand at leaves has one in a slot where its content there is positive
  pub in_positive : (h : Holding) (s : ℕ) → AtLeaves w l h → HasIn w l s h → 0 < tokens_in w l h s
  in_positive h s tidy has =
      let n : ℕ = has.0 in
      let half : ℕ = (w - 1) / 2 in
      let below = has.1 in
      dite (dec_le half n)
      (λ low.
      let back : half + (n - half) ≡ n = omega arith in
      let j : ℕ = n - half in
      let there = subst (λ (i : ℕ). 0 < slice_index h.tokens (s * (w + l) + i)) (sym back) has.2 in
      let a = inside w l h s j (omega arith) in
      let b = over_at l (content_of w l h s) j (omega arith) in omega arith)
      (λ none. let z = tidy s n (omega arith) in let have = has.2 in omega arith)

  pub positive_in : (h : Holding) (s : ℕ) → 0 < tokens_in w l h s → HasIn w l s h
  positive_in h s some =
      let r = over_some l (content_of w l h s) some in
      let below = r.1 in
      ((w - 1) / 2 + r.0, omega arith, subst (λ (n : ℕ). 0 < n) (inside w l h s r.0 below) r.2)
