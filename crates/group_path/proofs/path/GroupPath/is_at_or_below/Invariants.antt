use Rattle.std.proofs.Common.{◌≡◌}
use Rattle.flat_model.specs.Path.{at_or_below}
use Rattle.group_path.proofs.path.GroupPath.is_at_or_below.Given as goal

-- what is left of the two answers as the whole does
abbrev pub invariant-loop-theirs : goal.invariant-loop-theirs
invariant-loop-theirs g l =
    (goal.iterator-loop-theirs g).can_next l.theirs-iterator ×
    (goal.iterator-loop-theirs g).is_finite l.theirs-iterator ×
    (at_or_below l.self l.other ≡ at_or_below l.mine l.theirs-iterator)
