use Rattle.flat_model_laws.proofs.EventLaws.{tick_bounded, reached_bounded}
use Rattle.flat_model_laws.proofs.machine.events_are_bounded.Goals as goal

pub returns : goal.returns
returns c = record { kept = tick_bounded; bounded = reached_bounded }
