use Rattle.board_tests.proofs.Still.{holds_still}
use Rattle.board_tests.proofs.meters.Meters.put_replaced.Goals as goal

pub invariant_of-self-clause-plain_holds : goal.invariant_of-self-clause-plain_holds
invariant_of-self-clause-plain_holds g c = holds_still _ _ _ _ _ c.counts.ensures.content c.counts.ensures.held c.replace.new.self.plain_holds
