-- Calls that are commands of the flat state.
use Rattle.std.specs.Prelude.{ℕ, ◌≡◌, ◌≤◌, Option, Some, None, Result, Ok, Err, false, length, take, option_map}
use Rattle.flat_model.specs.Path.{Path}
use Rattle.flat_model.specs.State.{State}
use Rattle.flat_model.specs.Command as model
use Rattle.flat_model.specs.Command.{Command, Refusal, is_counted}
use Rattle.flat_model.specs.Step.{refusal, after, after_refusal, home_of, peaks_upward}
use Rattle.pids_charge.specs.declared.fault.ChargeRefusal.{ChargeRefusal}
use Rattle.pids_charge.specs.declared.fault.ChargeRefusal.TheVariants.{Exists, NoGroup, Descendants, Depth, NoSlot, RootFixed, HasChildren}
use Rattle.pids_charge.specs.declared.fault.ChargeRefusal.TheVariants.{HasProcesses, NoProcess, PidInUse, PidsMax, NoFile}
use Rattle.pids_charge.specs.declared.fault.ChargeFault.{ChargeFault}
use Rattle.pids_charge.specs.declared.fault.ChargeFault.TheVariants as fault
use Rattle.pids_charge.specs.declared.fork.ForkOutcome.{ForkOutcome}
use Rattle.pids_charge.specs.declared.fork.ForkOutcome.TheVariants.{Made, Counted, Refused}
use Rattle.pids_charge.specs.declared.migrate.MoveOutcome.{MoveOutcome}
use Rattle.pids_charge.specs.declared.migrate.MoveOutcome.TheVariants as move

-- the refusal of the flat state; a number counts names of p
abbrev pub refusal_along : Path → ChargeRefusal → Refusal
refusal_along p Exists = model.Exists
refusal_along p (NoGroup n) = model.NoGroup (take n p)
refusal_along p (Descendants n) = model.Descendants (take n p)
refusal_along p (Depth n) = model.Depth (take n p)
refusal_along p NoSlot = model.NoSlot
refusal_along p RootFixed = model.RootFixed
refusal_along p HasChildren = model.HasChildren
refusal_along p HasProcesses = model.HasProcesses
refusal_along p (NoProcess pid) = model.NoProcess pid
refusal_along p (PidInUse pid) = model.PidInUse pid
refusal_along p (PidsMax n) = model.OverPidsMax (take n p)
refusal_along p NoFile = model.NoFile

-- how many names of the path a refusal counts; 0 if it names no group
abbrev pub names_in : ChargeRefusal → ℕ
names_in (NoGroup n) = n
names_in (Descendants n) = n
names_in (Depth n) = n
names_in (PidsMax n) = n
names_in Exists = 0
names_in NoSlot = 0
names_in RootFixed = 0
names_in HasChildren = 0
names_in HasProcesses = 0
names_in (NoProcess pid) = 0
names_in (PidInUse pid) = 0
names_in NoFile = 0

-- a command is accepted and leaves its state, or this is its first refusal, which leaves what it counts
abbrev pub Decides : ℕ → State → Command → Path → {X : Type 0} → Result X ChargeRefusal → State → Type 0
Decides slots s c p (Ok x) new = (refusal slots s c ≡ None) × (new ≡ after s c)
Decides slots s c p (Err r) new = (refusal slots s c ≡ Some (refusal_along p r)) × (new ≡ after_refusal s (refusal_along p r))

-- what becomes of a fork: it is made, with the old peaks of its group and those above it; a limit refuses it, and it is counted;
-- or it is refused without a count, by a refusal that names no group
abbrev pub ForksTo : {A : Type 0} → ℕ → State → ℕ → ℕ → ForkOutcome A → State → Type 0
ForksTo slots s parent child (Made peaks) new =
    (refusal slots s (model.Fork parent child) ≡ None) × (new ≡ after s (model.Fork parent child)) × (peaks ≡ peaks_upward s (home_of s parent))
ForksTo slots s parent child (Counted path shared) new =
    (refusal slots s (model.Fork parent child) ≡ Some (model.OverPidsMax path)) × (new ≡ after_refusal s (model.OverPidsMax path)) × (shared ≡ path)
ForksTo slots s parent child (Refused r) new =
    ((p : Path) → (refusal slots s (model.Fork parent child) ≡ Some (refusal_along p r)) × (is_counted (refusal_along p r) ≡ false)) × (new ≡ s)

-- what becomes of a move: it is made, with the old group of the process and the old peaks along its new path; or it is refused
abbrev pub MovesTo : {A : Type 0} → ℕ → State → ℕ → Path → MoveOutcome A → State → Type 0
MovesTo slots s pid p (move.Moved to left) new =
    (refusal slots s (model.Move p pid) ≡ None) × (new ≡ after s (model.Move p pid)) × (to ≡ p) × (left.path ≡ home_of s pid) × (left.peaks ≡ peaks_upward s p)
MovesTo slots s pid p (move.Refused r) new = (refusal slots s (model.Move p pid) ≡ Some (refusal_along p r)) × (names_in r ≤ length p) × (new ≡ s)

-- ---- calls whose faults have out of memory among them

-- the refusal that a fault is, if it isn't out of memory
abbrev pub refusal_in : ChargeFault → Option ChargeRefusal
refusal_in fault.Exists = Some Exists
refusal_in (fault.NoGroup n) = Some (NoGroup n)
refusal_in (fault.Descendants n) = Some (Descendants n)
refusal_in (fault.Depth n) = Some (Depth n)
refusal_in fault.NoSlot = Some NoSlot
refusal_in fault.RootFixed = Some RootFixed
refusal_in fault.HasChildren = Some HasChildren
refusal_in fault.HasProcesses = Some HasProcesses
refusal_in (fault.NoProcess pid) = Some (NoProcess pid)
refusal_in (fault.PidInUse pid) = Some (PidInUse pid)
refusal_in (fault.PidsMax n) = Some (PidsMax n)
refusal_in fault.OutOfMemory = None
refusal_in fault.NoFile = Some NoFile

abbrev pub refusal_of_fault : Path → ChargeFault → Option Refusal
refusal_of_fault p f = option_map (refusal_along p) (refusal_in f)

-- the state after a refusal; out of memory changes nothing
abbrev pub after_fault : State → Option Refusal → State
after_fault s None = s
after_fault s (Some r) = after_refusal s r

-- the first refusal is returned, out of memory last; otherwise the new state is the command's
abbrev pub Does : ℕ → State → Command → Path → {X : Type 0} → Result X ChargeFault → State → Type 0
Does slots s c p (Ok x) new = (refusal slots s c ≡ None) × (new ≡ after s c)
Does slots s c p (Err f) new = (refusal slots s c ≡ refusal_of_fault p f) × (new ≡ after_fault s (refusal_of_fault p f))
