use Rattle.session_laws.proofs.Faults.{one_fault, no_fault, entries_or_told}
use Rattle.session_laws.proofs.desks.first_faults.Goals as goal

pub returns-clause-one : goal.returns-clause-one
returns-clause-one c = one_fault

pub returns-clause-none : goal.returns-clause-none
returns-clause-none c = no_fault

pub returns-clause-found : goal.returns-clause-found
returns-clause-found c = entries_or_told
