-- What holds in every state that commands reach.
use Rattle.std.specs.Prelude.{◌≡◌, ℕ, ◌+◌, ◌≤◌, true, false, Some, [], List, ◌∷◌}
use Rattle.std.specs.FinMap.{get, len}
use Rattle.flat_model.specs.Path.{Path, parent, is_root}
use Rattle.flat_model.specs.State.{State, Attr}
use Rattle.flat_model.specs.Counts.{is_group, current}
use Rattle.flat_model.specs.Command.{Command}
use Rattle.flat_model.specs.Machine.{Machine}

pub record WellFormed (slots : ℕ) (s : State) : Type 0 where
  pub root : is_group s [] ≡ true
  -- the parent of a group is a group, and so is the home of a process
  pub parents : (p : Path) → is_group s p ≡ true → is_group s (parent p) ≡ true
  pub homes : (pid : ℕ) (p : Path) → get s.home pid ≡ Some p → is_group s p ≡ true
  -- there are at most `slots` groups besides the root
  pub few : len s.groups ≤ slots + 1
  pub totals : (p : Path) (attr : Attr) → get s.groups p ≡ Some attr → attr.local ≤ attr.total
  -- no group other than the root has more processes now than its peak; the root has no peak
  pub peaks : (p : Path) (attr : Attr) → get s.groups p ≡ Some attr → is_root p ≡ false → current s p ≤ attr.peak
  pub root_peak : (attr : Attr) → get s.groups [] ≡ Some attr → attr.peak ≡ 0

abbrev pub PastWellFormed : ℕ → List (Command × State) → Type 0
PastWellFormed slots [] = Unit {0}
PastWellFormed slots (e ∷ past) = WellFormed slots e.1 × PastWellFormed slots past

-- the state is well formed, and so is each state that an undo can restore
abbrev pub MachineWellFormed : ℕ → Machine → Type 0
MachineWellFormed slots m = WellFormed slots m.state × PastWellFormed slots m.past
