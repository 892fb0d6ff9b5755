use Rattle.flat_model_laws.proofs.EventLaws.{counted_is}
use Rattle.flat_model_laws.proofs.refusals.events_are_counted_exactly.Goals as goal

pub returns : goal.returns
returns c = counted_is
