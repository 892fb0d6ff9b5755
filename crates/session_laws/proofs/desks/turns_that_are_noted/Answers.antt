use Rattle.std.proofs.Common.{arith}
use Rattle.session_laws.proofs.desks.turns_that_are_noted.Goals as goal

pub returns-clause-not_least : goal.returns-clause-not_least
returns-clause-not_least c = λ h. let le = h 3 in omega (arith, le)

pub returns-clause-without : goal.returns-clause-without
returns-clause-without c = λ h. h 0
