use Rattle.std.proofs.Common.{◌≡◌, ◌≤◌, IsSome, length, ◌^◌, ◌-◌}
use Rattle.std.specs.FinMap as fin
use Rattle.flat_model.specs.Path.{Path}
use Rattle.pids_charge.specs.GroupRows.{stepped}
use Rattle.pids_charge.specs.Lists.{row_at}
use Rattle.pids_charge.proofs.RowsUp.{total_by, IsPartWay}
use Rattle.pids_charge.proofs.above.change_totals.Given as goal

abbrev pub invariant-loop-up : goal.invariant-loop-up
invariant-loop-up g l = record {
  bound : l._up ≤ 32;
  few : (p : Path) → IsSome (fin.get l.fn.tree p) → l.row ≡ row_at l.fn.tree p → l._up ≤ length p;
  way : (p : Path) → IsSome (fin.get l.fn.tree p) → l.row ≡ row_at l.fn.tree p → IsPartWay l.fn.tree l.tree p (total_by (stepped (2 ^ 64 - 1) l.change)) l._up l.at;
}
