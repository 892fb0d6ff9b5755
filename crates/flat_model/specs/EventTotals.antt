-- How forks that `pids.max` refuses are counted, and how large the totals get.
use Rattle.std.specs.Prelude.{◌≡◌, ◌≢◌, ℕ, ◌+◌, ◌≤◌, List, [], ◌∷◌, Some, length}
use Rattle.std.specs.FinMap.{get}
use Rattle.flat_model.specs.Path.{Path, HasPrefix}
use Rattle.flat_model.specs.State.{State, Attr}
use Rattle.flat_model.specs.Command.{Command}
use Rattle.flat_model.specs.Machine.{Machine}

-- the group at p had the attributes x and has y after the group at a has refused one more fork: the local total of a rises by one, and
-- so do the totals of a and of each group above it other than the root; nothing else changes
pub record IsCounted (a p : Path) (x y : Attr) : Type 0 where
  pub limits : y.limits ≡ x.limits
  pub peak : y.peak ≡ x.peak
  pub local : p ≡ a → y.local ≡ x.local + 1
  pub local_else : p ≢ a → y.local ≡ x.local
  pub total : HasPrefix a p → p ≢ [] → y.total ≡ x.total + 1
  pub total_else : (HasPrefix a p → p ≡ []) → y.total ≡ x.total

-- no event total of a group is above n
abbrev pub HasEventsUpTo : ℕ → State → Type 0
HasEventsUpTo n s = (p : Path) (attr : Attr) → get s.groups p ≡ Some attr → (attr.local ≤ n) × (attr.total ≤ n)

-- nor, in each state of the past, above the number of commands recorded before it
abbrev pub PastEventsBounded : List (Command × State) → Type 0
PastEventsBounded [] = Unit {0}
PastEventsBounded (e ∷ past) = HasEventsUpTo (length past) e.1 × PastEventsBounded past

-- each event total is at most the number of recorded commands
abbrev pub EventsBounded : Machine → Type 0
EventsBounded m = HasEventsUpTo (length m.past) m.state × PastEventsBounded m.past
