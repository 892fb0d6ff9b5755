-- One step of the walk over the names of two paths.
use Rattle.std.proofs.Common.{◌≡◌, ◌∙◌, ◌&&◌, ap, sym, Bool, ◌∷◌, nat_eq}
use Rattle.std.specs.Cmp.Lexicographic.{pointwise, texts_ties}
use Rattle.flat_model.specs.Path.{Name, Path, at_or_below}

-- the first names are compared, and then the rest
pub at_or_below_step : (p q rest tail : Path) (n m : Name) (b : Bool) → p ≡ n ∷ rest → q ≡ m ∷ tail → b ≡ pointwise nat_eq n m → at_or_below p q ≡ (b && at_or_below rest tail)
at_or_below_step p q rest tail n m b e f g = rw (e, f) (ap (λ c. c && at_or_below rest tail) (sym (g ∙ texts_ties n m)))
