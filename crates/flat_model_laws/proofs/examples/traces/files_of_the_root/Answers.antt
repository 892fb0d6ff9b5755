use Rattle.std.specs.Prelude.{codes}
use Rattle.std.specs.Fmt.{digits}
use Rattle.flat_model.specs.Values.{number_fault}
use Rattle.flat_model.specs.PathText.{name_fault, path_fault}
use Rattle.flat_model.specs.Trace.{command_of_words}
use Rattle.flat_model_laws.proofs.ExamplesMachine.{answers_by_lists}
use Rattle.flat_model_laws.proofs.examples.traces.files_of_the_root.Goals as goal

pub returns : goal.returns
unfolding digits number_fault name_fault path_fault command_of_words
returns c = answers_by_lists 256 (codes "write /b cgroup.procs 9\nwrite / cgroup.procs 9\nwrite / pids.max 5\ncat / cgroup.procs\ncat / cgroup.events\ncat / cgroup.stat\ncat / cgroup.max.descendants\ncat / cgroup.max.depth\ncat / pids.max\ncat / pids.current\ncat / pids.events\ncat / pids.events.local\nwrite / cgroup.max.depth 3\ncat / cgroup.max.depth\n")
