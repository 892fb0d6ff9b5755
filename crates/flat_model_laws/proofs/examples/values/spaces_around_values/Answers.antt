use Rattle.std.proofs.Common.{refl}
use Rattle.flat_model.specs.Values.{number_fault}
use Rattle.flat_model_laws.proofs.examples.values.spaces_around_values.Goals as goal

pub returns : goal.returns
unfolding number_fault
returns c = record {
  pid = refl;
  limit = refl;
  no_limit = refl;
  kill = refl;
  no_other = refl;
  not_inside = refl;
  alone = refl;
}
