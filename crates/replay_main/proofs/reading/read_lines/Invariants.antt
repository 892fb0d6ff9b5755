use Rattle.std.proofs.Common.{◌≡◌, ◌++◌, map}
use Rattle.flat_model.specs.Replies.{commands_in}
use Rattle.flat_model.specs.Trace.{read_line, read_trace}
use Rattle.undo_journal.specs.CommandMeaning.{command_of}
use Rattle.replay_main.specs.Script.{place_of, places_in}
use Rattle.replay_main.proofs.reading.read_lines.Given as goal

abbrev pub invariant-loop-line : goal.invariant-loop-line
invariant-loop-line l = record {
  can : goal.iterator-loop-line.can_next l.line-iterator;
  finite : goal.iterator-loop-line.is_finite l.line-iterator;
  commands : map command_of l.script.commands.items ++ commands_in (map read_line l.line-iterator) ≡ commands_in (read_trace l.fn.text);
  places : map place_of l.script.places.items ++ places_in (map read_line l.line-iterator) ≡ places_in (read_trace l.fn.text);
}
