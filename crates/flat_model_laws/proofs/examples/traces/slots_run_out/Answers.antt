use Rattle.std.proofs.Common.{◌++◌}
use Rattle.std.specs.Prelude.{codes, flat_map, decimal}
use Rattle.std.specs.List.{range_with_len}
use Rattle.std.specs.Fmt.{digits}
use Rattle.flat_model.specs.Values.{number_fault}
use Rattle.flat_model.specs.PathText.{name_fault, path_fault}
use Rattle.flat_model.specs.Trace.{command_of_words}
use Rattle.flat_model_laws.proofs.ExamplesMachine.{answers_by_lists}
use Rattle.flat_model_laws.proofs.examples.traces.slots_run_out.Goals as goal

pub returns : goal.returns
unfolding digits number_fault name_fault path_fault command_of_words
returns c = answers_by_lists 256 (flat_map (λ n. codes "mkdir /g" ++ decimal n ++ codes "\n") (range_with_len 0 257) ++ codes "undo\nmkdir /g256\n")
