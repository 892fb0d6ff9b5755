use Rattle.std.proofs.Common.{refl}
use Rattle.flat_model_laws.proofs.examples.files.kinds_of_values.Goals as goal

pub returns : goal.returns
returns c = refl
