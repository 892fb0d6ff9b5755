use Rattle.std.proofs.Common.{length}
use Rattle.pids_charge.proofs.hints.hint_of.Given as goal

abbrev pub decreases-loop-rest : goal.decreases-loop-rest
decreases-loop-rest l = length l.rest
