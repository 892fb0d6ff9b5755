use Rattle.std.proofs.Common.{refl}
use Rattle.flat_model.specs.Values.{number_fault}
use Rattle.flat_model_laws.proofs.examples.values.kill_values.Goals as goal

pub returns : goal.returns
unfolding number_fault
returns c = record {
  one = refl;
  zero = refl;
  two = refl;
  leading_zero = refl;
}
