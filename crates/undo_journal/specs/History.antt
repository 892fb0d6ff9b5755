-- The machine that a state and a journal represent, and what the journal says of the earlier states.
use Rattle.std.specs.Prelude.{◌≡◌, ℕ, ◌-◌, ◌^◌, ◌<◌, ◌≤◌, List, [], ◌∷◌, map, length, reverse, None, Some, IsSome, eqb}
use Rattle.std.specs.List.{All, IsDistinct}
use Rattle.std.specs.FinMap.{get, len}
use Rattle.flat_model.specs.Path.{parent}
use Rattle.flat_model.specs.State.{State, start}
use Rattle.flat_model.specs.Command as model
use Rattle.flat_model.specs.Step.{refusal, home_of}
use Rattle.flat_model.specs.Inverse as model_inverse
use Rattle.flat_model.specs.Inverse.{back, past_of}
use Rattle.flat_model.specs.Machine.{Machine}
use Rattle.flat_model.specs.WellFormed.{WellFormed}
use Rattle.flat_model.specs.EventTotals.{HasEventsUpTo}
use Rattle.pids_charge.specs.Events.{HasEvents}
use Rattle.undo_journal.specs.declared.journal.JournalEntry.{JournalEntry}
use Rattle.undo_journal.specs.CommandMeaning.{command_of, inverse_of}
use Rattle.undo_journal.specs.Answer.{record_of, state_after}
use Rattle.undo_journal.specs.Timeline.{Timeline}

-- ---- the journal

abbrev pub journal_entry : {A : Type 0} → JournalEntry A → model.Command × model_inverse.Inverse
journal_entry e = (command_of e.command, inverse_of e.inverse)

-- newest first
abbrev pub records : {A : Type 0} → List (JournalEntry A) → List (model.Command × model_inverse.Inverse)
records journal = reverse (map journal_entry journal)

abbrev pub machine_of : {A : Type 0} → State → List (JournalEntry A) → Machine
machine_of s journal = record { state = s; past = past_of s (records journal) }

abbrev pub timeline_of : {A : Type 0} → ℕ → State → List (JournalEntry A) → Timeline
timeline_of forgotten s journal = record { machine = machine_of s journal; forgotten = forgotten }

-- the command c led to the state s and left the record i, which restores the state before it
pub record IsRecordedStep (slots : ℕ) (s : State) (c : model.Command) (i : model_inverse.Inverse) : Type 0 where
  pub record_is : record_of slots (back i s) c ≡ Some i
  pub state_is : state_after slots (back i s) c ≡ s

-- the past may begin with the state s, if this many recorded commands were forgotten
pub record IsFirst (slots forgotten : ℕ) (s : State) : Type 0 where
  pub well_formed : WellFormed slots s
  -- if none was forgotten, it is the start
  pub unforgotten : forgotten ≡ 0 → s ≡ start
  -- the count stops at the greatest u64; below it, it bounds the event totals
  pub counted : forgotten < 2 ^ 64 - 1 → HasEventsUpTo forgotten s

-- the recorded commands led to the state s, from the start or from the state at which this many were forgotten
abbrev pub IsHistory : ℕ → ℕ → State → List (model.Command × model_inverse.Inverse) → Type 0
IsHistory slots forgotten s [] = IsFirst slots forgotten s
IsHistory slots forgotten s (e ∷ es) = IsRecordedStep slots s e.0 e.1 × IsHistory slots forgotten (back e.1 s) es

-- ---- the condition for undoing a record

abbrev pub IsReady : ℕ → State → model_inverse.Inverse → Type 0
-- the new group can be removed
IsReady slots s (model_inverse.Made p) = refusal slots s (model.RemoveGroup p) ≡ None
-- the removed group is absent, its parent exists, and a slot is free
IsReady slots s (model_inverse.Removed p attr) = (get s.groups p ≡ None) × IsSome (get s.groups (parent p)) × (len s.groups ≤ slots)
-- the new process can exit, and there is a peak for each name of its group's path
IsReady slots s (model_inverse.Forked pid peaks) = (refusal slots s (model.Exit pid) ≡ None) × (length peaks ≡ length (home_of s pid))
-- the exited process is absent, and its group exists
IsReady slots s (model_inverse.Exited pid p) = (get s.home pid ≡ None) × IsSome (get s.groups p)
-- the moved process can move back, and there is a peak for each name of the path of the group that it leaves
IsReady slots s (model_inverse.Moved pid p peaks) = (refusal slots s (model.Move p pid) ≡ None) × (length peaks ≡ length (home_of s pid))
-- the old limit can be set
IsReady slots s (model_inverse.Limited p file value) = refusal slots s (model.SetLimit p file value) ≡ None
-- the counted fork is in the totals
IsReady slots s (model_inverse.Counted a) = HasEvents s a
-- the killed processes are absent, their pids are distinct, and their groups exist
IsReady slots s (model_inverse.Killed lost) = All (λ e. get s.home e.0 ≡ None) lost × IsDistinct eqb (map (λ e. e.0) lost) × All (λ e. IsSome (get s.groups e.1)) lost
