-- The test of two texts, by what a loop has compared.
use Rattle.std.proofs.Common.{◌≡◌, Bool, true, false, refl, sym}
use Rattle.flat_model.specs.Path.{Name, same_name}
use Rattle.flat_model.proofs.PathLaws.{same_name_is}

not_true : (b : Bool) → (b ≡ true → ⊥) → false ≡ b
not_true true h = absurd (h refl)
not_true false h = refl

pub differ : (a b : Name) → (a ≡ b → ⊥) → false ≡ same_name a b
differ a b apart = not_true (same_name a b) (λ e. apart ((same_name_is a b).0 e))

pub agree : (a b : Name) → a ≡ b → true ≡ same_name a b
agree a b e = sym ((same_name_is a b).1 e)
