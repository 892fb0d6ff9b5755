use Rattle.std.specs.Prelude.{codes}
use Rattle.std.specs.Fmt.{digits}
use Rattle.flat_model.specs.Values.{number_fault}
use Rattle.flat_model.specs.PathText.{name_fault, path_fault}
use Rattle.flat_model.specs.Trace.{command_of_words}
use Rattle.flat_model_laws.proofs.ExamplesMachine.{answers_by_lists}
use Rattle.flat_model_laws.proofs.examples.traces.refused_fork_raises_no_peak.Goals as goal

pub returns : goal.returns
unfolding digits number_fault name_fault path_fault command_of_words
returns c = answers_by_lists 256 (codes "mkdir /a\nmkdir /a/b\nwrite /a pids.max 1\nwrite /a cgroup.procs 1\nwrite /a/b cgroup.procs 1\nfork 1 2\ncat /a pids.peak\ncat /a/b pids.peak\nundo\nundo\ncat /a/b pids.peak\nwrite /a pids.peak 0\n")
