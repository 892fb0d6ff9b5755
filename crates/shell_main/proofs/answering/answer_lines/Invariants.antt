use Rattle.std.proofs.Common.{◌≤◌, ◌++◌, length}
use Rattle.shell_main.specs.Talks.{Answered, IsUnended}
use Rattle.shell_main.proofs.answering.answer_lines.Given as goal

abbrev pub invariant-loop-end : goal.invariant-loop-end
invariant-loop-end l =
    Answered l.options l.fn.talk (l.fn.line.items ++ l.fn.bytes) (l.line.items ++ l.rest) l.out.items l.talk
    × IsUnended l.line.items
    × (length l.rest ≤ length l.fn.bytes)

abbrev pub decreases-loop-end : goal.decreases-loop-end
decreases-loop-end l = length l.rest
