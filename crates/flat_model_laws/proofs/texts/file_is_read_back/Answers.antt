use Rattle.flat_model_laws.proofs.CommandTextLaws.{file_named-file_name}
use Rattle.flat_model_laws.proofs.CommandTextLawsOnly.{file_named_only}
use Rattle.flat_model_laws.proofs.texts.file_is_read_back.Goals as goal

pub returns : goal.returns
returns c = record { read = file_named-file_name; only = file_named_only }
