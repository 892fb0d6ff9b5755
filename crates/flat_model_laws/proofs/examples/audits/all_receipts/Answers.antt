use Rattle.flat_model_laws.proofs.ExamplesAudits.{all_given, all_turned}
use Rattle.flat_model_laws.proofs.examples.audits.all_receipts.Goals as goal

pub returns-clause-given : goal.returns-clause-given
returns-clause-given c = all_given

pub returns-clause-turned : goal.returns-clause-turned
returns-clause-turned c = all_turned
