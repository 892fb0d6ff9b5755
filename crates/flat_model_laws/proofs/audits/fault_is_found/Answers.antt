use Rattle.flat_model_laws.proofs.AuditSame.{entries_or_first_fault, entries_without_fault}
use Rattle.flat_model_laws.proofs.audits.fault_is_found.Goals as goal

pub returns-clause-exactly : goal.returns-clause-exactly
returns-clause-exactly c = entries_without_fault

pub returns-clause-found : goal.returns-clause-found
returns-clause-found c = entries_or_first_fault
