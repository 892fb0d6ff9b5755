use Rattle.std.proofs.Common.{◌≡◌, ◌≤◌, ◌+◌, ◌++◌, map, length}
use Rattle.flat_model.specs.Trace.{read_line, read_trace, trace_max}
use Rattle.trace_talk.specs.Points.{answers_on, point_after, start_point}
use Rattle.replay_main.proofs.one_pass.answer_in_one_pass.Given as goal

abbrev pub invariant-loop-line : goal.invariant-loop-line
invariant-loop-line l = record {
  can : goal.iterator-loop-line.can_next l.line-iterator;
  finite : goal.iterator-loop-line.is_finite l.line-iterator;
  few : l.talk.commands + length l.line-iterator ≤ trace_max + 1;
  bytes : l.bytes.items ++ answers_on l.talk (map read_line l.line-iterator) ≡ answers_on start_point (read_trace l.fn.trace);
  point : point_after l.talk (map read_line l.line-iterator) ≡ point_after start_point (read_trace l.fn.trace);
}
