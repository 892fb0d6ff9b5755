use Rattle.std.specs.Prelude.{codes}
use Rattle.std.specs.Fmt.{digits}
use Rattle.flat_model.specs.Values.{number_fault}
use Rattle.flat_model.specs.PathText.{name_fault, path_fault}
use Rattle.flat_model.specs.Trace.{command_of_words}
use Rattle.flat_model_laws.proofs.ExamplesMachine.{answers_by_lists}
use Rattle.flat_model_laws.proofs.examples.traces.kill_and_its_undo.Goals as goal

pub returns : goal.returns
unfolding digits number_fault name_fault path_fault command_of_words
returns c = answers_by_lists 256 (codes "mkdir /k\nmkdir /k/a\nmkdir /k/b\nfork 1 2\nfork 1 3\nfork 1 4\nwrite /k cgroup.procs 2\nwrite /k/a cgroup.procs 3\nwrite /k/b cgroup.procs 4\nfork 3 5\nfork 4 6\ncat /k pids.current\nwrite /k cgroup.kill 1\ncat /k pids.current\ncat /k cgroup.events\nundo\ncat /k/a cgroup.procs\ncat /k/b cgroup.procs\ncat /k cgroup.procs\ncat /k cgroup.events\nwhere 5\n")
