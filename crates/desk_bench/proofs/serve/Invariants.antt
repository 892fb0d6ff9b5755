use Rattle.std.proofs.Common.{◌≡◌, length}
use Rattle.desk_bench.proofs.serve.Given as goal

abbrev pub invariant-loop-number : goal.invariant-loop-number
invariant-loop-number g l = length l.workers.items ≡ l.number
