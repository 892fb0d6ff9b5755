use Rattle.std.proofs.Common.{◌≡◌, IsSome}
use Rattle.std.specs.FinMap as fin
use Rattle.flat_model.specs.Path.{Path}
use Rattle.pids_charge.specs.Lists.{row_at}
use Rattle.pids_charge.proofs.RowWalks.{IsOnWay}
use Rattle.pids_charge.proofs.walk.is_at_or_below.Given as goal

abbrev pub invariant-loop-up : goal.invariant-loop-up
invariant-loop-up g l = (p : Path) → IsSome (fin.get l.tree p) → l.at ≡ row_at l.tree p → IsOnWay l.tree p l.top l._up l.met
