use Rattle.std.proofs.Common.{◌++◌, ◌∷◌, []}
use Rattle.std.specs.Prelude.{codes, map}
use Rattle.std.specs.List.{range_with_len}
use Rattle.std.specs.Fmt.{digits}
use Rattle.flat_model.specs.Values.{number_fault}
use Rattle.flat_model.specs.PathText.{name_fault, path_fault}
use Rattle.flat_model.specs.Trace.{command_of_words}
use Rattle.flat_model_laws.proofs.ExamplesMachine.{answers_by_lists}
use Rattle.flat_model_laws.proofs.examples.traces.every_byte.Goals as goal

pub returns : goal.returns
unfolding digits number_fault name_fault path_fault command_of_words
returns c = record {
  alone = λ i. map (λ b. answers_by_lists 256 (b ∷ []) i) (range_with_len 0 256);
  in_a_name = λ i. map (λ b. answers_by_lists 256 (codes "mkdir /a" ++ b ∷ 0x0A ∷ []) i) (range_with_len 0 256);
}
