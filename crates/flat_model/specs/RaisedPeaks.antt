-- How the peaks of groups change when a process enters a group.
use Rattle.std.specs.Prelude.{◌≡◌, ◌≢◌, ℕ, max, []}
use Rattle.flat_model.specs.Path.{Path, HasPrefix}
use Rattle.flat_model.specs.State.{Attr}

-- the group at p had the attributes x and has y after a process entered a, and now counts n processes: if p is a or above it, and not the root, its peak has risen to at least n; nothing else changes
pub record IsRaised (a p : Path) (n : ℕ) (x y : Attr) : Type 0 where
  pub limits : y.limits ≡ x.limits
  pub local : y.local ≡ x.local
  pub total : y.total ≡ x.total
  pub reached : HasPrefix a p → p ≢ [] → y.peak ≡ max x.peak n
  pub elsewhere : (HasPrefix a p → p ≡ []) → y.peak ≡ x.peak
