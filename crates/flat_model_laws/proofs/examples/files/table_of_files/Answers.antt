use Rattle.std.proofs.Common.{refl}
use Rattle.flat_model_laws.proofs.examples.files.table_of_files.Goals as goal

pub returns : goal.returns
returns c = refl
