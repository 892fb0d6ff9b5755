use Rattle.std.proofs.Common.{refl}
use Rattle.flat_model.specs.PathText.{name_fault, path_fault, child_fault}
use Rattle.flat_model_laws.proofs.examples.paths.path_neighbours.Goals as goal

pub returns : goal.returns
unfolding name_fault path_fault child_fault
returns c = record {
  names = refl;
  above = refl;
  below = refl;
  below_text = refl;
  cut = refl;
}
