use Rattle.std.specs.Prelude.{codes}
use Rattle.std.specs.Fmt.{digits}
use Rattle.flat_model.specs.Values.{number_fault}
use Rattle.flat_model.specs.PathText.{name_fault, path_fault}
use Rattle.flat_model.specs.Trace.{command_of_words}
use Rattle.flat_model_laws.proofs.ExamplesMachine.{answers_by_lists}
use Rattle.flat_model_laws.proofs.examples.traces.cut_trace.Goals as goal

pub returns : goal.returns
unfolding digits number_fault name_fault path_fault command_of_words
returns c = record {
  word = answers_by_lists 256 (codes "mkdir /a\nmkdi");
  root = answers_by_lists 256 (codes "mkdir /a\nmkdir /");
  shorter_name = answers_by_lists 256 (codes "mkdir /a\nmkdir /b");
}
