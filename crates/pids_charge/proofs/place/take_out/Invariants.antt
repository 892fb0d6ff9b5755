use Rattle.std.proofs.Common.{◌≡◌, ◌≤◌, length, drop}
use Rattle.pids_charge.specs.Lists.{without}
use Rattle.pids_charge.proofs.place.take_out.Given as goal

abbrev pub invariant-loop-i : goal.invariant-loop-i
invariant-loop-i g l = record {
  bound : l.i ≤ length l.list;
  rest : without (drop l.i l.list) l.processes ≡ without (drop l.at l.list) l.fn.processes;
}
