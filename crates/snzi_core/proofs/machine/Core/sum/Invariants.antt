use Rattle.std.proofs.Common.{◌≡◌, ◌%◌, ◌^◌}
use Rattle.snzi_core.specs.Effect.{slot_amounts}
use Rattle.snzi_core.proofs.machine.Core.sum.Given as goal

abbrev pub invariant-loop-stripe : goal.invariant-loop-stripe
invariant-loop-stripe g l = l.all ≡ slot_amounts l.self l.slot l.stripe % 2 ^ 64
