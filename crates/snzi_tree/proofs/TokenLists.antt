-- Lists of tokens, by words and by slots and leaves; a hand cut in two, and two hands made one.
use Rattle.std.proofs.Common.{◌≡◌, ◌≢◌, ℕ, suc, ◌+◌, ◌<◌, ◌≤◌, Bool, cond, List, [], ◌∷◌, sym, refl, ap, ◌∙◌, subst, ⊎_elim, arith, eq-eqb, ne_eqb}
use Rattle.std.specs.Prelude.{slice_index, nat_eq}
use Rattle.std.proofs.lemmas.List.Sums.{sum_by-cons}
use mathlib.Core.Logic.{dite}
use native.Mathlib.Decide.{ℕ_discrete, dec_le}
use Rattle.snzi_core.specs.declared.holding.Holding.{Holding}
use Rattle.snzi_tokens.specs.declared.token.Token.{Token}
use Rattle.snzi_core.specs.Shape.{node_word, leaf_word}
use Rattle.snzi_tokens.specs.Listed.{IsWithin, listed_at, one_at}
use Rattle.snzi_tree.specs.Contents.{AllInRange, count_at, token_word, content_of, AtLeaves}
use Rattle.snzi_tree.proofs.WordPlaces.{leaf_same, leaf_not_above, leaf_or_none}
use Rattle.snzi_tree.proofs.Leaves.{one_here, one_slot, one_leaf, inside, outside}

pub in_range : (g l : ℕ) (ts : List Token) → IsWithin g l ts → AllInRange g l ts
in_range g l [] all = tt
in_range g l (t ∷ ts) all = (all 0 t (omega arith), in_range g l ts (λ k d h. all (suc k) d (omega (arith, h))))

abbrev one_if : Bool → ℕ
one_if t = cond t 1 0

module _ (w l : ℕ) (shape : l + l ≡ w + 1) where
  -- tokens are counted at the word of a leaf as at the leaf
  pub count_leaf : (g : ℕ) (ts : List Token) → AllInRange g l ts → (s j : ℕ) → j < l → count_at w l (leaf_word w l s j) ts ≡ listed_at ts s j
  count_leaf g [] all s j below = refl
  count_leaf g (t ∷ ts) all s j below =
      let rest = count_leaf g ts all.1 s j below in
      let cons = sum_by-cons (λ (u : Token). one_at u.slot u.leaf s j) t ts in
      let this : one_if (nat_eq (token_word w l t) (leaf_word w l s j)) ≡ one_at t.slot t.leaf s j = dite (ℕ_discrete t.slot s)
      (λ e. dite (ℕ_discrete t.leaf j)
      (λ f. ap one_if (eq-eqb (token_word w l t) (leaf_word w l s j) (ap (λ (z : ℕ × ℕ). leaf_word w l z.0 z.1) (λ i. (e i, f i)))) ∙ sym (one_here s j t.slot t.leaf e f))
      (λ f. ap one_if (ne_eqb (token_word w l t) (leaf_word w l s j) (λ q. f (leaf_same w l shape t.slot s t.leaf j all.0.1 below q).1)) ∙ sym (one_leaf s j t.slot t.leaf f)))
      (λ e. ap one_if (ne_eqb (token_word w l t) (leaf_word w l s j) (λ q. e (leaf_same w l shape t.slot s t.leaf j all.0.1 below q).0)) ∙ sym (one_slot s j t.slot t.leaf e)) in
      omega arith

  -- and nowhere else
  pub count_none : (g : ℕ) (ts : List Token) → AllInRange g l ts → (i : ℕ) → ((s j : ℕ) → j < l → leaf_word w l s j ≢ i) → count_at w l i ts ≡ 0
  count_none g [] all i off = refl
  count_none g (t ∷ ts) all i off =
      let rest = count_none g ts all.1 i off in
      let this : one_if (nat_eq (token_word w l t) i) ≡ 0 = ap one_if (ne_eqb (token_word w l t) i (off t.slot t.leaf all.0.1)) in
      omega arith

  pub none_past : (g : ℕ) (ts : List Token) → AllInRange g l ts → (s j : ℕ) → l ≤ j → listed_at ts s j ≡ 0
  none_past g [] all s j past = refl
  none_past g (t ∷ ts) all s j past =
      let rest = none_past g ts all.1 s j past in
      let cons = sum_by-cons (λ (u : Token). one_at u.slot u.leaf s j) t ts in
      let this = one_leaf s j t.slot t.leaf (λ e. let low = all.0.1 in omega arith) in
      omega arith

  -- a share that is there by slots and leaves is there by words
  pub share_there : (g : ℕ) (ts : List Token) (h : Holding) → AllInRange g l ts → ((s j : ℕ) → listed_at ts s j ≤ content_of w l h s j) → (i : ℕ) → count_at w l i ts ≤ slice_index h.tokens i
  share_there g ts h all there i = ⊎_elim
      (λ (r : (s : ℕ) × (j : ℕ) × (j < l) × (i ≡ leaf_word w l s j)).
      let a = count_leaf g ts all r.0 r.1 r.2 in
      let b = inside w l h r.0 r.1 r.2 in
      let c = there r.0 r.1 in
      subst (λ (x : ℕ). count_at w l x ts ≤ slice_index h.tokens x) (sym r.3) (omega arith))
      (λ (off : (s j : ℕ) → j < l → leaf_word w l s j ≢ i). let a = count_none g ts all i off in omega arith)
      (leaf_or_none w l shape i)

  module _ (g : ℕ) (ts : List Token) (all : AllInRange g l ts) (h m k : Holding)
      (shared : (i : ℕ) → (slice_index k.tokens i ≡ count_at w l i ts)
      × (slice_index m.tokens i + count_at w l i ts ≡ slice_index h.tokens i)) where
    -- the helper has the share
    pub share_content : (s j : ℕ) → content_of w l k s j ≡ listed_at ts s j
    share_content s j = dite (dec_le (suc j) l)
        (λ p. inside w l k s j p ∙ (shared (leaf_word w l s j)).0 ∙ count_leaf g ts all s j p)
        (λ p. outside w l k s j (omega arith) ∙ sym (none_past g ts all s j (omega arith)))

    -- and main the rest
    pub rest_content : (s j : ℕ) → content_of w l m s j + listed_at ts s j ≡ content_of w l h s j
    rest_content s j = dite (dec_le (suc j) l)
        (λ p.
        let a = inside w l m s j p in
        let b = inside w l h s j p in
        let c = (shared (leaf_word w l s j)).1 in
        let d = count_leaf g ts all s j p in omega arith)
        (λ p.
        let a = outside w l m s j (omega arith) in
        let b = outside w l h s j (omega arith) in
        let c = none_past g ts all s j (omega arith) in omega arith)

    pub share_leaves : AtLeaves w l k
    share_leaves s n p = (shared (node_word w l s n)).0 ∙ count_none g ts all (node_word w l s n) (λ s' j below e. leaf_not_above w l shape s s' n j p below (sym e))

    pub rest_leaves : AtLeaves w l h → AtLeaves w l m
    rest_leaves tidy s n p = let a = (shared (node_word w l s n)).1 in let b = tidy s n p in omega arith

  module _ (h k m : Holding) (tokens : (i : ℕ) → slice_index m.tokens i ≡ slice_index h.tokens i + slice_index k.tokens i) where
    pub joined_content : (s j : ℕ) → content_of w l m s j ≡ content_of w l h s j + content_of w l k s j
    joined_content s j = dite (dec_le (suc j) l)
        (λ p.
        let a = inside w l m s j p in
        let b = inside w l h s j p in
        let c = inside w l k s j p in
        let d = tokens (leaf_word w l s j) in omega arith)
        (λ p.
        let a = outside w l m s j (omega arith) in
        let b = outside w l h s j (omega arith) in
        let c = outside w l k s j (omega arith) in omega arith)

    pub joined_leaves : AtLeaves w l h → AtLeaves w l k → AtLeaves w l m
    joined_leaves a b s n p = let c = tokens (node_word w l s n) in let d = a s n p in let e = b s n p in omega arith
