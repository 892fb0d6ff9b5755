use Rattle.flat_model.proofs.PathTextLaws.{read_path-path_text, read_path_is, path_text_apart}
use Rattle.flat_model_laws.proofs.paths.path_is_read_back.Goals as goal

pub returns : goal.returns
returns c = record { read = read_path-path_text; only = read_path_is; apart = path_text_apart }
