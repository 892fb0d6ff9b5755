use Rattle.std.proofs.Common.{refl}
use Rattle.flat_model.specs.PathText.{name_fault, path_fault}
use Rattle.flat_model_laws.proofs.examples.paths.paths_read.Goals as goal

pub returns : goal.returns
unfolding name_fault path_fault
returns c = record {
  root = refl;
  begins_like_a_file = refl;
  longest_name = refl;
  most_names = refl;
}
