use Rattle.std.proofs.Common.{◌≤◌}
use Rattle.desk_bench.proofs.target.Worker.work.Given as goal

abbrev pub invariant-loop-call : goal.invariant-loop-call
invariant-loop-call g l = l.done ≤ l.call
