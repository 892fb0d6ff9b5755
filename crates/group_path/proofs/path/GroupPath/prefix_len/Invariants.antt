use Rattle.std.proofs.Common.{◌≡◌, ◌≤◌, ◌+◌, length, take}
use Rattle.flat_model.specs.PathText.{spelled, text_max}
use Rattle.group_path.proofs.path.GroupPath.prefix_len.Given as goal

-- the bytes counted and those that spell the names to come are those of the first `n` names
abbrev pub invariant-loop-name : goal.invariant-loop-name
invariant-loop-name g l =
    (goal.iterator-loop-name g).can_next l.name-iterator ×
    (goal.iterator-loop-name g).is_finite l.name-iterator ×
    (l.len + length (spelled l.name-iterator) ≡ length (spelled (take l.n l.self))) × (length (spelled (take l.n l.self)) ≤ text_max)
