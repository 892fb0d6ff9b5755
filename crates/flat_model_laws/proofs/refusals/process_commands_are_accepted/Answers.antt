use Rattle.flat_model_laws.proofs.AcceptedLaws.{fork_is, exit_is, move_is, locate_is}
use Rattle.flat_model_laws.proofs.refusals.process_commands_are_accepted.Goals as goal

pub returns : goal.returns
returns c = record {
  forked = fork_is;
  exited = exit_is;
  moved = move_is;
  located = locate_is;
}
