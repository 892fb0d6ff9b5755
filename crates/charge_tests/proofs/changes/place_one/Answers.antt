use Rattle.flat_model.proofs.Lists.{one_distinct}
use Rattle.charge_tests.proofs.changes.place_one.Goals as goal

pub place_all_by-requires-clause-apart : goal.place_all_by-requires-clause-apart
place_all_by-requires-clause-apart g c = one_distinct _
