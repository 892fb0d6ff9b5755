-- Where a past begins, and what forgetting a past leaves.
use Rattle.std.specs.Prelude.{◌+◌, ◌-◌, ◌^◌, List, [], ◌∷◌, length, min}
use Rattle.flat_model.specs.State.{State}
use Rattle.flat_model.specs.Command.{Command}
use Rattle.flat_model.specs.Machine.{Machine}
use Rattle.undo_journal.specs.Timeline.{Timeline}

-- the state before the oldest recorded command; with no past, the current state
abbrev pub first_state : State → List (Command × State) → State
first_state s [] = s
first_state s (e ∷ past) = first_state e.1 past

-- what undoing everything leaves
abbrev pub beginning : Machine → Machine
beginning m = record { state = first_state m.state m.past; past = [] }

-- the same state, and nothing to undo
abbrev pub forgotten : Machine → Machine
forgotten m = record { state = m.state; past = [] }

-- the past of the machine is forgotten, and counted with what was forgotten before
abbrev pub forgets : Timeline → Timeline
forgets t = record { machine = forgotten t.machine; forgotten = min (t.forgotten + length t.machine.past) (2 ^ 64 - 1) }
