use Rattle.flat_model_laws.proofs.AuditLaws.{entries-once, entries-each, entries-ascend}
use Rattle.flat_model_laws.proofs.audits.entries_once.Goals as goal

pub returns-clause-once : goal.returns-clause-once
returns-clause-once c = entries-once

pub returns-clause-own : goal.returns-clause-own
returns-clause-own c = entries-each

pub returns-clause-ascending : goal.returns-clause-ascending
returns-clause-ascending c = entries-ascend
