-- One undo after another.
use Rattle.std.proofs.Common.{◌≡◌, ℕ, zero, suc, ◌+◌, refl, ap, ◌∙◌, arith}
use Rattle.flat_model.specs.Command as model
use Rattle.flat_model.specs.Machine.{Machine, tick, end_of, undos}

undo_last : (slots : ℕ) (m : Machine) (n : ℕ) → (tick slots (end_of slots m (undos n)) model.Undo).0 ≡ end_of slots m (undos (suc n))
undo_last slots m zero = refl
undo_last slots m (suc n) = undo_last slots (tick slots m model.Undo).0 n

-- an undo after n of them makes n + 1
pub undos_next : (slots : ℕ) (m : Machine) (n : ℕ) → (tick slots (end_of slots m (undos n)) model.Undo).0 ≡ end_of slots m (undos (n + 1))
undos_next slots m n = let e : suc n ≡ n + 1 = omega arith in undo_last slots m n ∙ ap (λ k. end_of slots m (undos k)) e
