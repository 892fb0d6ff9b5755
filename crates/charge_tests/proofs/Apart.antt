-- Two processes whose numbers were compared.
use Rattle.std.proofs.Common.{◌≡◌, ℕ, false, [], ◌∷◌, eqb, sym, ◌∙◌, arith}
use Rattle.std.specs.List.{IsDistinct}
use Rattle.std.proofs.lemmas.Bool.Decides.{nat_tests}

nat_apart : (x y : ℕ) → (x ≡ y → ⊥) → eqb x y ≡ false
nat_apart x y apart = grind (arith, nat_tests, apart)

two_distinct : (x y : ℕ) → eqb x y ≡ false → IsDistinct eqb (x ∷ y ∷ [])
unfolding IsDistinct
two_distinct x y apart = ((apart, tt), (tt, tt))

pub two_compared : (x y a b : ℕ) → a ≡ x → b ≡ y → (a ≡ b → ⊥) → IsDistinct eqb (x ∷ y ∷ [])
two_compared x y a b e f apart = two_distinct x y (nat_apart x y (λ same. apart (e ∙ same ∙ sym f)))
