-- What each answered command promises about undo and counts, and what undoing everything leaves.
use Rattle.std.specs.Prelude.{◌≡◌, ℕ, ◌<◌, ◌≤◌, ◌+◌, ◌-◌, ◌↔◌, true, false, Some, List, length, sum_by, Result, Ok, Err}
use Rattle.std.specs.FinMap.{get}
use Rattle.flat_model.specs.Path.{Path, is_root}
use Rattle.flat_model.specs.State.{Attr}
use Rattle.flat_model.specs.Counts.{current, populated, members, children, IsInhabited}
use Rattle.flat_model.specs.Command.{Command, Undo, Undone}
use Rattle.flat_model.specs.Machine.{new_machine, tick, end_of, undos, TakesBackItsOwn}
use Rattle.flat_model.specs.WellFormed.{MachineWellFormed}
use Rattle.undo_journal.specs.Beginning.{beginning}
use Rattle.undo_journal.specs.Timeline.{Timeline, from_start, becomes}

-- the state is well formed, and so is each that an undo can restore, down to where the past begins
pub record IsReached (slots : ℕ) (t : Timeline) : Type 0 where
  pub well_formed : MachineWellFormed slots t.machine
  pub all_undone : end_of slots t.machine (undos (length t.machine.past)) ≡ beginning t.machine
  -- if nothing was forgotten, undoing everything gives the new machine
  pub from_the_start : t.forgotten ≡ 0 → end_of slots t.machine (undos (length t.machine.past)) ≡ new_machine

-- The command c has led from `old` to `new`.
pub record KeepsHistory (slots : ℕ) (old : Timeline) (c : Command) (new : Timeline) : Type 0 where
  -- if c was recorded, an undo restores the old machine, and names the command that it undid
  pub command_undone : length old.machine.past < length new.machine.past → tick slots new.machine Undo ≡ (old.machine, Undone c)
  -- run any commands and undos from the new machine, where the undos undo only commands of this run; then
  -- one undo for each record that the run has left restores the new machine
  pub run_undone : (run : List Command) → TakesBackItsOwn slots (length new.machine.past) new.machine run →
      end_of slots (end_of slots new.machine run) (undos (length (end_of slots new.machine run).past - length new.machine.past)) ≡ new.machine
  -- the past begins where it began, and nothing was forgotten
  pub begins : beginning new.machine ≡ beginning old.machine
  pub forgotten : new.forgotten ≡ old.forgotten
  -- undoing everything restores that beginning: the new machine, if the engine has never forgotten
  pub all_undone : end_of slots new.machine (undos (length new.machine.past)) ≡ beginning old.machine
  pub from_the_start : old.forgotten ≡ 0 → end_of slots new.machine (undos (length new.machine.past)) ≡ new_machine
  -- the count of each group is the number of its own members plus the counts of its children
  pub counts : (g : Path) → current new.machine.state g ≡ length (members new.machine.state g) + sum_by (current new.machine.state) (children new.machine.state g)
  -- a group is populated exactly if a process is in it or below it
  pub populations : (g : Path) → (populated new.machine.state g ≡ true) ↔ IsInhabited new.machine.state g
  -- no group but the root counts more processes than its peak
  pub peaks : (g : Path) (attr : Attr) → get new.machine.state.groups g ≡ Some attr → is_root g ≡ false → current new.machine.state g ≤ attr.peak

-- Either everything is undone, and this is the number of commands: the machine is where its past began, which is the new machine
-- if the engine has never forgotten. Or this many of the newest are undone, and the others stay recorded.
abbrev pub UndoesAll : {E : Type 0} → ℕ → Timeline → Result ℕ (ℕ × E) → Timeline → Type 0
UndoesAll slots old (Ok n) new =
    (n ≡ length old.machine.past) × (new ≡ becomes old (beginning old.machine)) × (old.forgotten ≡ 0 → new ≡ from_start new_machine)
UndoesAll slots old (Err e) new = (e.0 < length old.machine.past) × (new ≡ becomes old (end_of slots old.machine (undos e.0)))
