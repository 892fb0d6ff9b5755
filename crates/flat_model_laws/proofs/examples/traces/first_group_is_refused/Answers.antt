use Rattle.std.specs.Prelude.{codes, ◌++◌}
use Rattle.std.specs.Fmt.{digits}
use Rattle.flat_model.specs.Values.{number_fault}
use Rattle.flat_model.specs.PathText.{name_fault, path_fault}
use Rattle.flat_model.specs.Trace.{command_of_words}
use Rattle.flat_model_laws.proofs.ExamplesMachine.{answers_by_lists}
use Rattle.flat_model_laws.proofs.examples.traces.first_group_is_refused.Goals as goal

pub returns : goal.returns
unfolding digits number_fault name_fault path_fault command_of_words
returns c = answers_by_lists 256 (codes "write / cgroup.max.descendants 0\nmkdir /a\n" ++ codes "write / cgroup.max.depth 0\nmkdir /a\n"
    ++ codes "write / cgroup.max.descendants max\nmkdir /a\n" ++ codes "write / cgroup.max.depth 1\nmkdir /a\nmkdir /a/b\n")
