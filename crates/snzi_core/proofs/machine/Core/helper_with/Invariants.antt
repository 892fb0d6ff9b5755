use Rattle.std.proofs.Common.{◌≡◌, length, take, replicate}
use Rattle.snzi_core.specs.Holding.{helper_with}
use Rattle.snzi_core.specs.Effect.{counts}
use Rattle.snzi_core.proofs.machine.Core.helper_with.Given as goal

abbrev pub invariant-loop-token : goal.invariant-loop-token
invariant-loop-token g l = l.helper ≡ helper_with (counts l.self (take l.token-index l.share)) (replicate (length l.self.words) 0)
