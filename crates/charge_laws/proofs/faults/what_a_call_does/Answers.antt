use Rattle.charge_laws.proofs.FaultLaws.{done_is, accepted_is, refused_is}
use Rattle.charge_laws.proofs.faults.what_a_call_does.Goals as goal

pub returns : goal.returns
returns c = record { done = done_is; accepted = accepted_is; refused = refused_is }
