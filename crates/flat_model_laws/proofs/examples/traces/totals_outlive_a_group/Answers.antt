use Rattle.std.specs.Prelude.{codes}
use Rattle.std.specs.Fmt.{digits}
use Rattle.flat_model.specs.Values.{number_fault}
use Rattle.flat_model.specs.PathText.{name_fault, path_fault}
use Rattle.flat_model.specs.Trace.{command_of_words}
use Rattle.flat_model_laws.proofs.ExamplesMachine.{answers_by_lists}
use Rattle.flat_model_laws.proofs.examples.traces.totals_outlive_a_group.Goals as goal

pub returns : goal.returns
unfolding digits number_fault name_fault path_fault command_of_words
returns c = answers_by_lists 256 (codes "mkdir /t\nmkdir /t/a\nwrite /t/a pids.max 1\nwrite /t/a cgroup.procs 1\nfork 1 2\nexit 1\nrmdir /t/a\ncat /t pids.events\ncat /t pids.events.local\nundo\ncat /t/a pids.max\ncat /t/a pids.events\n")
