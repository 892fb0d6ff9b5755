use Rattle.session_laws.proofs.Faults.{below_by}
use Rattle.session_laws.proofs.desks.turns_that_passed.Goals as goal

pub returns-clause-exactly : goal.returns-clause-exactly
returns-clause-exactly c = below_by
