use Rattle.std.proofs.Common.{take}
use Rattle.snzi_core.specs.CoreState.{SameShape}
use Rattle.snzi_core.specs.Effect.{Runs}
use Rattle.snzi_core.proofs.machine.Core.replay.Given as goal

abbrev pub invariant-loop-place : goal.invariant-loop-place
invariant-loop-place g l = Runs l.initial.self (take l.place l.events) l.self × SameShape l.initial.self l.self
