use Rattle.std.proofs.Common.{refl}
use Rattle.flat_model.specs.PathText.{name_fault, path_fault}
use Rattle.flat_model_laws.proofs.examples.paths.path_faults_in_order.Goals as goal

pub returns : goal.returns
unfolding name_fault path_fault
returns c = record {
  rooted_first = refl;
  then_length = refl;
  then_depth = refl;
  name_by_name = refl;
  byte_before_length = refl;
  length_before_word = refl;
  dot = refl;
  of_the_pids_controller = refl;
  like_it = refl;
  longest_text = refl;
}
