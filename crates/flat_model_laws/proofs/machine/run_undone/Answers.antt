use Rattle.flat_model.proofs.UndoLaws.{run_undone, all_undone, undos_reply}
use Rattle.flat_model_laws.proofs.machine.run_undone.Goals as goal

pub returns : goal.returns
returns c = record { run = run_undone; all = all_undone; answers = undos_reply }
