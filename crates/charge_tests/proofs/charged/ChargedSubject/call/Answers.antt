use Rattle.charge_tests.proofs.charged.ChargedSubject.call.Goals as goal

pub invariant_of-self : goal.invariant_of-self
invariant_of-self g c = record { up = c.answer-answered.ensures.up c.args.self.now.calls c.args.self.now.up }
