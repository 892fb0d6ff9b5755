-- A reading whose value is mapped.
use Rattle.std.proofs.Common.{◌≡◌, ◌↔◌, ℕ, List, Result, Ok, Err, refl, ap, ◌∙◌}
use Rattle.flat_model.specs.Path.{Path}
use Rattle.flat_model.specs.Refuse.{map_ok}

value_of : (f : ℕ → List ℕ) (r : Result ℕ Path) (t : List ℕ) → map_ok f r ≡ Ok t → (n : ℕ) × (r ≡ Ok n) × (f n ≡ t)
value_of f (Ok n) t e = (n, refl, let same : f n ≡ t = cc in same)
value_of f (Err q) t e = cc

pub mapped_value : (f : ℕ → List ℕ) (r : Result ℕ Path) (t : List ℕ) → (map_ok f r ≡ Ok t) ↔ ((n : ℕ) × (r ≡ Ok n) × (f n ≡ t))
mapped_value f r t = (value_of f r t, λ h. ap (map_ok f) h.1 ∙ ap Ok h.2)

fault_of : (f : ℕ → List ℕ) (r : Result ℕ Path) (p : Path) → map_ok f r ≡ Err p → r ≡ Err p
fault_of f (Ok n) p e = cc
fault_of f (Err q) p e = let same : q ≡ p = cc in ap Err same

pub mapped_fault : (f : ℕ → List ℕ) (r : Result ℕ Path) (p : Path) → (map_ok f r ≡ Err p) ↔ (r ≡ Err p)
mapped_fault f r p = (fault_of f r p, λ e. ap (map_ok f) e)
