use Rattle.std.proofs.Common.{refl}
use Rattle.std.specs.Prelude.{codes}
use Rattle.std.specs.Fmt.{digits}
use Rattle.flat_model.specs.Values.{number_fault}
use Rattle.flat_model.specs.PathText.{name_fault, path_fault}
use Rattle.flat_model.specs.Trace.{command_of_words, read_trace}
use Rattle.flat_model_laws.proofs.ExamplesMachine.{answers_by_lists, refused_by_lists}
use Rattle.flat_model_laws.proofs.examples.traces.faults_before_refusals.Goals as goal

pub returns : goal.returns
unfolding digits number_fault name_fault path_fault command_of_words
returns c = record {
  answered = answers_by_lists 256 (codes "write a nofile x\nwrite /a foo x\nwrite /a pids.current x\nwrite /a pids.max x\nwrite /a pids.max 5\ncat / pids.max\ncat /a cgroup.kill\nwrite / cgroup.kill 1\nwrite / cgroup.procs 0\n# note\nbogus\nmkdir\nmkdir /a/b\nmkdir /\nwhere 2\nwhere 1\ncat / cgroup.procs\nexit 1\ncat / cgroup.procs\n");
  commands = refl;
  refused = refused_by_lists 256 (read_trace (codes "write a nofile x\nwrite /a foo x\nwrite /a pids.current x\nwrite /a pids.max x\nwrite /a pids.max 5\ncat / pids.max\ncat /a cgroup.kill\nwrite / cgroup.kill 1\nwrite / cgroup.procs 0\n# note\nbogus\nmkdir\nmkdir /a/b\nmkdir /\nwhere 2\nwhere 1\ncat / cgroup.procs\nexit 1\ncat / cgroup.procs\n"));
}
