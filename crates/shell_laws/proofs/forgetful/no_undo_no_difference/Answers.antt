use Rattle.flat_model.specs.Trace.{read_trace}
use Rattle.trace_talk.specs.Points.{start_point}
use Rattle.shell_laws.proofs.EmptiedPasts.{no_difference}
use Rattle.shell_laws.proofs.forgetful.no_undo_no_difference.Goals as goal

pub returns : goal.returns
returns c = λ text a. no_difference start_point (read_trace text) a
