use Rattle.std.proofs.Common.{refl}
use Rattle.flat_model.specs.Machine.{new_machine}
use Rattle.trace_talk.specs.Points.{start_point}
use Rattle.shell_laws.proofs.EmptiedPasts.{dropped}
use Rattle.shell_laws.proofs.forgetful.undos_are_dropped.Goals as goal

pub returns : goal.returns
returns c = λ lines. dropped new_machine start_point lines refl
