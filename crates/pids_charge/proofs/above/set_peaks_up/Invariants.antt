use Rattle.std.proofs.Common.{◌≡◌, IsSome}
use Rattle.std.specs.FinMap as fin
use Rattle.flat_model.specs.Path.{Path}
use Rattle.pids_charge.specs.Lists.{row_at}
use Rattle.pids_charge.proofs.RowsUp.{peak_by, IsPartWay}
use Rattle.pids_charge.proofs.above.set_peaks_up.Given as goal

abbrev pub invariant-loop-i : goal.invariant-loop-i
invariant-loop-i g l = record {
  way : (p : Path) → IsSome (fin.get l.fn.tree p) → l.row ≡ row_at l.fn.tree p → IsPartWay l.fn.tree l.tree p (peak_by l.peaks) l.i l.at;
}
