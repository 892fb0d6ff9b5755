use Rattle.std.proofs.Common.{refl}
use Rattle.flat_model.specs.Values.{number_fault}
use Rattle.flat_model.specs.PathText.{name_fault, path_fault}
use Rattle.flat_model.specs.Trace.{command_of_words}
use Rattle.flat_model_laws.proofs.examples.lines.lines_refused.Goals as goal

pub returns : goal.returns
unfolding number_fault name_fault path_fault command_of_words
returns c = record {
  path_first = refl;
  then_file = refl;
  then_direction = refl;
  then_value = refl;
  kill_is_not_read = refl;
  no_pid = refl;
  unknown_word = refl;
  word_missing = refl;
  comment = refl;
}
