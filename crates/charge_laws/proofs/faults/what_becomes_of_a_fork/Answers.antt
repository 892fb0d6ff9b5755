use Rattle.charge_laws.proofs.FaultLaws.{counted_or_not, forked_is, made_or_refused, one_outcome}
use Rattle.charge_laws.proofs.faults.what_becomes_of_a_fork.Goals as goal

pub returns : goal.returns
returns c = record { stepped = forked_is; one = one_outcome; refused = made_or_refused; uncounted = counted_or_not }
