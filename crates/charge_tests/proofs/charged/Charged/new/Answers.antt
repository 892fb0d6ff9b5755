use Rattle.flat_model.proofs.EventBounds.{start_up}
use Rattle.charge_tests.proofs.charged.Charged.new.Goals as goal

pub invariant_of-result : goal.invariant_of-result
invariant_of-result g c = record { up = start_up c.in_ok-charges.charges c.in_ok-charges.ensures }
