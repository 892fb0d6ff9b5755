use Rattle.std.proofs.Common.{refl}
use Rattle.flat_model.specs.Values.{number_fault}
use Rattle.flat_model_laws.proofs.examples.values.value_faults_in_order.Goals as goal

pub returns : goal.returns
unfolding number_fault
returns c = record {
  number_first = refl;
  then_zero = refl;
  then_zero_of_a_limit = refl;
  then_zero_of_a_kill = refl;
  then_range = refl;
  no_other_word = refl;
}
