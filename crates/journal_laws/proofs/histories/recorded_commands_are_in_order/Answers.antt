use Rattle.std.proofs.Common.{refl}
use Rattle.journal_laws.proofs.RecordedCommands.{newest_is_last, as_many}
use Rattle.journal_laws.proofs.histories.recorded_commands_are_in_order.Goals as goal

pub returns : goal.returns
returns c = record {
  none = refl;
  newest = newest_is_last;
  many = as_many;
  three = λ s. refl;
}
