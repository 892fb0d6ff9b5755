use Rattle.std.proofs.Common.{◌≡◌, false, length}
use Rattle.program_io.specs.Device.{TakesFront}
use Rattle.program_io.proofs.output.write_whole.Given as goal

abbrev pub invariant-loop-rest : goal.invariant-loop-rest
invariant-loop-rest g l = (g.S.Sink.is_failed l.sink ≡ false) × TakesFront (g.S.Sink.taken l.fn.sink) l.fn.bytes l.rest (g.S.Sink.taken l.sink)

abbrev pub decreases-loop-rest : goal.decreases-loop-rest
decreases-loop-rest g l = length l.rest
