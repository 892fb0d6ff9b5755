use Rattle.flat_model.proofs.PathTextLawsChild.{IsPath-take, child_path_is, child_path_only}
use Rattle.flat_model_laws.proofs.paths.neighbours_are_paths.Goals as goal

pub returns : goal.returns
returns c = record { front = IsPath-take; child = child_path_is; only = child_path_only }
