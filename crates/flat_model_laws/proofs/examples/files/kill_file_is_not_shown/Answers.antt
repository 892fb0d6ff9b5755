use Rattle.std.proofs.Common.{refl}
use Rattle.flat_model_laws.proofs.examples.files.kill_file_is_not_shown.Goals as goal

pub returns : goal.returns
returns c = λ slots s p. refl
