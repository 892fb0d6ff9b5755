use Rattle.charge_laws.proofs.FaultLaws.{decides_refused}
use Rattle.charge_laws.proofs.faults.what_a_call_decides.Goals as goal

pub returns : goal.returns
returns c = record { done = λ slots s c p x new. (λ d. d, λ d. d); refused = decides_refused }
