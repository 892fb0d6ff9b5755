use Rattle.charge_tests.proofs.Apart.{two_compared}
use Rattle.charge_tests.proofs.changes.place_two.Goals as goal

pub place_all_by-requires-clause-apart : goal.place_all_by-requires-clause-apart
place_all_by-requires-clause-apart g c = two_compared c.args.one.pid c.args.other.pid c.get.result c.get-2.result c.get.ensures.value c.get-2.ensures.value c.if-get.false
