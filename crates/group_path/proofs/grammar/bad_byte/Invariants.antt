use Rattle.std.proofs.Common.{◌≡◌, ◌+◌, drop}
use Rattle.std.specs.List.{position_from}
use Rattle.flat_model.specs.PathText.{is_bad_byte}
use Rattle.group_path.proofs.grammar.bad_byte.Given as goal

abbrev pub invariant-loop-b : goal.invariant-loop-b
invariant-loop-b l = (l.here ≡ l.at + l.b-index) × (position_from is_bad_byte l.at l.name ≡ position_from is_bad_byte l.here (drop l.b-index l.name))
