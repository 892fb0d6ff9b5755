use Rattle.std.proofs.Common.{◌≤◌, ◌*◌}
use Rattle.desk_bench.proofs.sum.Given as goal

abbrev pub invariant-loop-count : goal.invariant-loop-count
invariant-loop-count l = l.sum ≤ l.count-index * l.most
