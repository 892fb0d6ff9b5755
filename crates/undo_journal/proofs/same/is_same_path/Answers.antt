use Rattle.flat_model.proofs.PathLaws.{same_path_is}
use Rattle.undo_journal.proofs.same.is_same_path.Goals as goal

pub returns : goal.returns
returns g c = rw c.is_same.ensures (same_path_is c.args.path.now c.args.other.now)
