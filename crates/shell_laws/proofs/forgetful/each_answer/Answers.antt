use Rattle.std.proofs.Common.{refl}
use Rattle.flat_model.specs.Command.{Undo}
use Rattle.shell_laws.proofs.EmptiedPasts.{other_answer, undo_answer}
use Rattle.shell_laws.proofs.forgetful.each_answer.Goals as goal

pub returns-clause-undo : goal.returns-clause-undo
returns-clause-undo c = λ lines. undo_answer lines Undo refl

pub returns-clause-other : goal.returns-clause-other
returns-clause-other c = λ lines command u. other_answer lines command u
