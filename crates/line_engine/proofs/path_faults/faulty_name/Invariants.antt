use Rattle.std.proofs.Common.{◌≡◌, ◌≤◌, length, is_some}
use Rattle.std.specs.List.{position_or_len}
use Rattle.flat_model.specs.PathText.{depth_max, name_fault, names_in}
use Rattle.line_engine.specs.PathFaults.{place_of_name}
use Rattle.line_engine.proofs.path_faults.faulty_name.Given as goal

-- the names so far have no fault, and at most depth_max names were there
abbrev pub invariant-loop-name : goal.invariant-loop-name
invariant-loop-name l = record {
  can : goal.iterator-loop-name.can_next l.name-iterator;
  finite : goal.iterator-loop-name.is_finite l.name-iterator;
  count : l.count ≡ length l.yielded;
  few : l.count ≤ depth_max;
  place : l.at ≡ place_of_name (names_in l.text) l.count;
  faultless : l.count ≤ position_or_len (λ name. is_some (name_fault 0 name)) (names_in l.text);
}
