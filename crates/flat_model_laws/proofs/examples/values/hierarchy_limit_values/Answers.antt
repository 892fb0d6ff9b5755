use Rattle.std.proofs.Common.{refl}
use Rattle.flat_model.specs.Values.{number_fault}
use Rattle.flat_model_laws.proofs.examples.values.hierarchy_limit_values.Goals as goal

pub returns : goal.returns
unfolding number_fault
returns c = record {
  depth_below = refl;
  depth_greatest = refl;
  depth_past_it = refl;
  descendants_below = refl;
  descendants_greatest = refl;
  descendants_past_it = refl;
}
