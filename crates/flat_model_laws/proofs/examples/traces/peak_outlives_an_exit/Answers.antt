use Rattle.std.specs.Prelude.{codes}
use Rattle.std.specs.Fmt.{digits}
use Rattle.flat_model.specs.Values.{number_fault}
use Rattle.flat_model.specs.PathText.{name_fault, path_fault}
use Rattle.flat_model.specs.Trace.{command_of_words}
use Rattle.flat_model_laws.proofs.ExamplesMachine.{answers_by_lists}
use Rattle.flat_model_laws.proofs.examples.traces.peak_outlives_an_exit.Goals as goal

pub returns : goal.returns
unfolding digits number_fault name_fault path_fault command_of_words
returns c = answers_by_lists 256 (codes "mkdir /a\ncat /a pids.peak\nwrite /a cgroup.procs 1\nfork 1 2\ncat /a pids.peak\nexit 2\ncat /a pids.peak\nwrite / cgroup.procs 1\ncat /a pids.current\ncat /a pids.peak\nundo\nundo\nundo\ncat /a pids.peak\ncat / pids.peak\n")
