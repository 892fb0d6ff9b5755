use Rattle.std.proofs.Common.{refl}
use Rattle.flat_model.specs.Values.{number_fault}
use Rattle.flat_model.specs.PathText.{name_fault, path_fault}
use Rattle.flat_model.specs.Trace.{command_of_words}
use Rattle.flat_model_laws.proofs.examples.files.lines_of_files.Goals as goal

pub returns : goal.returns
unfolding number_fault name_fault path_fault command_of_words
returns c = record {
  written = refl;
  shown = refl;
}
