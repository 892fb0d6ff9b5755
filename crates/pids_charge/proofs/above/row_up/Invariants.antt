use Rattle.std.proofs.Common.{◌≡◌, ◌-◌, IsSome, length, take}
use Rattle.std.specs.FinMap as fin
use Rattle.flat_model.specs.Path.{Path}
use Rattle.pids_charge.specs.Lists.{row_at}
use Rattle.pids_charge.proofs.above.row_up.Given as goal

abbrev pub invariant-loop-up : goal.invariant-loop-up
invariant-loop-up g l = (p : Path) → IsSome (fin.get l.tree p) → l.row ≡ row_at l.tree p → l.at ≡ row_at l.tree (take (length p - l._up) p)
