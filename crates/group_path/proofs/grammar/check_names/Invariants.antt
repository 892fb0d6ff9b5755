use Rattle.std.proofs.Common.{◌≡◌, ◌≤◌, ◌+◌, length}
use Rattle.std.specs.List.{slice_split}
use Rattle.flat_model.specs.PathText.{is_slash, spelled, names_fault, depth_max}
use Rattle.group_path.proofs.grammar.check_names.Given as goal

-- the names that are left have the fault of all, and what spells them still fits
abbrev pub invariant-loop-name : goal.invariant-loop-name
invariant-loop-name l =
    (goal.iterator-loop-name).can_next l.name-iterator ×
    (goal.iterator-loop-name).is_finite l.name-iterator ×
    (names_fault 0 1 (slice_split is_slash l.names) ≡ names_fault l.count l.at l.name-iterator) ×
    (l.at + length (spelled l.name-iterator) ≤ length l.names + 2) × (l.count ≤ depth_max)
