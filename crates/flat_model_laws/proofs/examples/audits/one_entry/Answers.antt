use Rattle.flat_model_laws.proofs.ExamplesAudits.{renumbered, other_alone, alone, without_receipts}
use Rattle.flat_model_laws.proofs.examples.audits.one_entry.Goals as goal

pub returns-clause-renumbered : goal.returns-clause-renumbered
returns-clause-renumbered c = renumbered

pub returns-clause-other_alone : goal.returns-clause-other_alone
returns-clause-other_alone c = other_alone

pub returns-clause-alone : goal.returns-clause-alone
returns-clause-alone c = alone

pub returns-clause-without_receipts : goal.returns-clause-without_receipts
returns-clause-without_receipts c = without_receipts
