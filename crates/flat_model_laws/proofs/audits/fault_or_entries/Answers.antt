use Rattle.flat_model_laws.proofs.AuditLaws.{fault_not_entries, faults_are_one}
use Rattle.flat_model_laws.proofs.audits.fault_or_entries.Goals as goal

pub returns-clause-not_both : goal.returns-clause-not_both
returns-clause-not_both c = fault_not_entries

pub returns-clause-one : goal.returns-clause-one
returns-clause-one c = faults_are_one
