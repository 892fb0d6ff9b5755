use Rattle.flat_model.proofs.GroupCounts.{current_is, populated_is}
use Rattle.flat_model_laws.proofs.DescendantLaws.{descendants_are}
use Rattle.flat_model_laws.proofs.states.counts_are_exact.Goals as goal

pub returns : goal.returns
returns c = record { whole = current_is; populated = populated_is; descendants = descendants_are }
