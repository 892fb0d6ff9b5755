use Rattle.std.proofs.Common.{◌≡◌, ◌++◌}
use Rattle.std.specs.List.{flat_map}
use Rattle.flat_model.specs.Replies.{bar_line}
use Rattle.flat_model.specs.Trace.{lines_in}
use Rattle.trace_lines.proofs.replies.put_bar_lines.Given as goal

-- what is there and the lines that are left make up the whole
abbrev pub invariant-loop-line : goal.invariant-loop-line
invariant-loop-line l =
    (goal.iterator-loop-line).can_next l.line-iterator ×
    (goal.iterator-loop-line).is_finite l.line-iterator ×
    (l.bytes.items ++ flat_map bar_line l.line-iterator ≡ l.fn.bytes.items ++ flat_map bar_line (lines_in l.text))
