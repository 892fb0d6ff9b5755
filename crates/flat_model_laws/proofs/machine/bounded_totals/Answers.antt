use Rattle.flat_model_laws.proofs.PastLaws.{totals_are}
use Rattle.flat_model_laws.proofs.machine.bounded_totals.Goals as goal

pub returns : goal.returns
returns c = totals_are
