use Rattle.std.proofs.Common.{◌≡◌, ◌≤◌, length, drop}
use Rattle.std.specs.List.{All}
use Rattle.flat_model.specs.CommandText.{IsPid}
use Rattle.pids_charge.specs.Lists.{with_lost}
use Rattle.pids_charge.proofs.place.place_last.Given as goal

abbrev pub invariant-loop-at : goal.invariant-loop-at
invariant-loop-at g l = record {
  bound : l.at ≤ length l.list;
  placed : l.processes ≡ with_lost l.tree l.leaf (drop l.at l.list) l.fn.processes;
  pids : All (λ x. IsPid x.pid) (drop l.at l.list);
}

abbrev pub decreases-loop-at : goal.decreases-loop-at
decreases-loop-at g l = l.at
