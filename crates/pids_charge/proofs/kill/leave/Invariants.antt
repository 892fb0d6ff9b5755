use Rattle.std.proofs.Common.{◌≡◌, ◌≤◌, ◌++◌, drop, length}
use Rattle.std.specs.Ordering.{nat_cmp}
use Rattle.std.specs.List.Sorted.{IsStrictlySortedBy}
use Rattle.std.specs.Map.{keys_of}
use Rattle.std.specs.Vec.{vec_len, vec_capacity}
use Rattle.pids_charge.specs.Lists.{lost_each, without_each}
use Rattle.pids_charge.proofs.kill.leave.Given as goal

abbrev pub invariant-loop-pid : goal.invariant-loop-pid
invariant-loop-pid g l = record {
  ordered : IsStrictlySortedBy nat_cmp (keys_of l.processes);
  rest : without_each (drop l.pid-index l.pids) l.processes ≡ without_each l.pids l.fn.processes;
  listed : l.lost.items ++ lost_each (drop l.pid-index l.pids) l.processes ≡ lost_each l.pids l.fn.processes;
  many : vec_len l.lost ≤ l.pid-index;
  room : length l.pids ≤ vec_capacity l.lost;
}
