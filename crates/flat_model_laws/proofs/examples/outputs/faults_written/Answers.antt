use Rattle.std.proofs.Common.{refl}
use Rattle.std.specs.Fmt.{digits}
use Rattle.flat_model_laws.proofs.examples.outputs.faults_written.Goals as goal

pub returns : goal.returns
unfolding digits
returns c = record { syntax = refl; path = refl; file = refl; direction = refl; value = refl }
