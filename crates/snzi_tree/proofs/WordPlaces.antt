-- Words of leaves and of other nodes.
use Rattle.std.proofs.Common.{◌≡◌, ◌≢◌, ◌⊎◌, ℕ, suc, ◌+◌, ◌-◌, ◌*◌, ◌/◌, ◌%◌, ◌<◌, sym, ap, ◌∙◌, inl, inr, arith}
use Rattle.std.proofs.lemmas.Nat.{mod-mul-add, div-mul-add}
use Rattle.std.proofs.Math.Nat.{mod-lt}
use native.Mathlib.Nat.{div-add-mod'}
use mathlib.Core.Logic.{dite}
use native.Mathlib.Decide.{dec_le}
use Rattle.snzi_core.specs.Shape.{node_word, leaf_word}

-- two places of one size are the same only where their parts are
pub same_place : (m s s' a b : ℕ) → a < m → b < m → s * m + a ≡ s' * m + b → (s ≡ s') × (a ≡ b)
same_place m s s' a b p q e =
    (sym (div-mul-add s m a p) ∙ ap (λ (n : ℕ). n / m) e ∙ div-mul-add s' m b q, sym (mod-mul-add s m a p) ∙ ap (λ (n : ℕ). n % m) e ∙ mod-mul-add s' m b q)

module _ (w l : ℕ) (shape : l + l ≡ w + 1) where
  pub leaf_below : (j : ℕ) → j < l → (w - 1) / 2 + j < w + l
  leaf_below j h = omega arith

  pub leaf_same : (s s' j j' : ℕ) → j < l → j' < l → leaf_word w l s j ≡ leaf_word w l s' j' → (s ≡ s') × (j ≡ j')
  leaf_same s s' j j' p q e =
      let r = same_place (w + l) s s' ((w - 1) / 2 + j) ((w - 1) / 2 + j') (leaf_below j p) (leaf_below j' q) e in
      let t = r.1 in (r.0, omega arith)

  pub leaf_not_above : (s s' k j : ℕ) → k < (w - 1) / 2 → j < l → node_word w l s k ≢ leaf_word w l s' j
  leaf_not_above s s' k j p q e =
      let r = same_place (w + l) s s' k ((w - 1) / 2 + j) (omega arith) (leaf_below j q) e in
      let t = r.1 in omega arith

  -- a word is that of a leaf, or of none
  pub leaf_or_none : (i : ℕ) → ((s : ℕ) × (j : ℕ) × (j < l) × (i ≡ leaf_word w l s j)) ⊎ ((s j : ℕ) → j < l → leaf_word w l s j ≢ i)
  leaf_or_none i =
      let m : ℕ = w + l in
      let s : ℕ = i / m in
      let a : ℕ = i % m in
      let small : a < m = mod-lt i (omega arith) in
      let is : s * m + a ≡ i = div-add-mod' i m in
      dite (dec_le ((w - 1) / 2) a)
      (λ low. dite (dec_le (suc a) w)
      (λ high.
      let back : (w - 1) / 2 + (a - (w - 1) / 2) ≡ a = omega arith in
      inl (s, a - (w - 1) / 2, omega arith, sym is ∙ ap (λ (n : ℕ). s * m + n) (sym back)))
      (λ none. inr (λ s' j h e. let r = same_place m s' s ((w - 1) / 2 + j) a (leaf_below j h) small (e ∙ sym is) in let t = r.1 in omega arith)))
      (λ none. inr (λ s' j h e. let r = same_place m s' s ((w - 1) / 2 + j) a (leaf_below j h) small (e ∙ sym is) in let t = r.1 in omega arith))
