use Rattle.flat_model_laws.proofs.ExamplesAudits.{past_the_log}
use Rattle.flat_model_laws.proofs.examples.audits.receipt_past_the_log.Goals as goal

pub returns : goal.returns
returns c = past_the_log
