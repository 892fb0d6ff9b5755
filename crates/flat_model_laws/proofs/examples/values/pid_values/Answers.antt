use Rattle.std.proofs.Common.{refl}
use Rattle.flat_model.specs.Values.{number_fault}
use Rattle.flat_model_laws.proofs.examples.values.pid_values.Goals as goal

pub returns : goal.returns
unfolding number_fault
returns c = record {
  zero = refl;
  leading_zero = refl;
  greatest = refl;
  past_it = refl;
  word = refl;
}
