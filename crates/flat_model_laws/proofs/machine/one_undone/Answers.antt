use Rattle.flat_model.proofs.UndoLaws.{accepted_undone, counted_undone}
use Rattle.flat_model_laws.proofs.machine.one_undone.Goals as goal

pub returns : goal.returns
returns c = record { accepted = accepted_undone; counted = counted_undone }
