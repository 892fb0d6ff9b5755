use Rattle.std.proofs.Common.{refl}
use Rattle.shell_laws.proofs.ProgramEnds.{told_is, others_stay}
use Rattle.shell_laws.proofs.ends.pipes_that_are_closed.Goals as goal

pub returns : goal.returns
returns c = record { told = told_is; others = others_stay; open_pipe = λ r. refl }
