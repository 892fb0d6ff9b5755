use Rattle.std.proofs.Common.{◌≡◌, ◌++◌}
use Rattle.line_engine.specs.Listings.{history_from, lines_bytes}
use Rattle.line_engine.proofs.history.gather_lines.Given as goal

abbrev pub invariant-loop-place : goal.invariant-loop-place
invariant-loop-place l = l.bytes.items ++ lines_bytes (history_from l.engine.machine.past l.place) ≡ lines_bytes (history_from l.engine.machine.past l.from)
