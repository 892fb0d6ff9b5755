use Rattle.flat_model_laws.proofs.ExamplesAudits.{exchanged}
use Rattle.flat_model_laws.proofs.examples.audits.receipts_exchanged.Goals as goal

pub returns : goal.returns
returns c = exchanged
