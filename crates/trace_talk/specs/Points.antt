-- The state of a talk, which is the machine and the two counts, from line to line; and what one line leaves.
use Rattle.std.specs.Prelude.{◌≡◌, ℕ, ◌+◌, ◌-◌, ◌^◌, List, [], ◌∷◌, ◌++◌}
use Rattle.std.specs.List.{count_by}
use Rattle.flat_model.specs.Command.{Reply}
use Rattle.flat_model.specs.Machine.{Machine, new_machine, end_of, replies}
use Rattle.flat_model.specs.Replies.{command_count, commands_in, is_fault, is_refused, out}
use Rattle.flat_model.specs.Trace.{Line}
use Rattle.undo_journal.specs.Beginning.{forgotten}
use Rattle.undo_journal.specs.Slots.{slots}
use Rattle.trace_talk.specs.declared.summary.Summary.{Summary}

-- the state of a talk: the machine, how many lines had a number, and how many of these were refused
pub record Point : Type 0 where
  pub machine : Machine
  pub commands : ℕ
  pub refused : ℕ

abbrev pub start_point : Point
start_point = record { machine = new_machine; commands = 0; refused = 0 }

abbrev pub replies_on : Point → List Line → List Reply
replies_on p lines = replies slots p.machine (commands_in lines)

-- the answers to these lines from this state on
abbrev pub answers_on : Point → List Line → List ℕ
answers_on p lines = out (p.commands + 1) lines (replies_on p lines)

-- the state of the talk after these lines
abbrev pub point_after : Point → List Line → Point
point_after p lines = record {
  machine = end_of slots p.machine (commands_in lines);
  commands = p.commands + command_count lines;
  refused = p.refused + (count_by is_fault lines + count_by is_refused (replies_on p lines));
}

-- the same state of a talk, with nothing to undo
abbrev pub without_past : Point → Point
without_past p = record { machine = forgotten p.machine; commands = p.commands; refused = p.refused }

-- the greatest number of a line
abbrev pub number_max : ℕ
number_max = 2 ^ 64 - 1

-- the answer to one line is appended
pub record IsSaid (old : Point) (line : Line) (before after : List ℕ) (new : Point) : Type 0 where
  pub bytes_are : after ≡ before ++ answers_on old (line ∷ [])
  pub point : new ≡ point_after old (line ∷ [])

abbrev pub summary_of : Point → Summary
summary_of p = record { commands = p.commands; refused = p.refused }
