use Rattle.std.proofs.Common.{refl}
use Rattle.flat_model.specs.PathText.{name_fault, child_fault}
use Rattle.flat_model_laws.proofs.examples.paths.child_faults_in_order.Goals as goal

pub returns : goal.returns
unfolding name_fault child_fault
returns c = record {
  nothing = refl;
  slash = refl;
  byte_before_length = refl;
  length_before_word = refl;
  length_before_depth = refl;
  dots_before_depth = refl;
  word_before_depth = refl;
  depth_before_text = refl;
  then_text = refl;
  deepest = refl;
  longest = refl;
}
