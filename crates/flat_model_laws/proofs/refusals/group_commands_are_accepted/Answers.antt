use Rattle.flat_model_laws.proofs.AcceptedLaws.{make_is, remove_is, set_is, kill_is, show_is}
use Rattle.flat_model_laws.proofs.refusals.group_commands_are_accepted.Goals as goal

pub returns : goal.returns
returns c = record {
  made = make_is;
  removed = remove_is;
  limited = set_is;
  killed = kill_is;
  shown = show_is;
}
