use Rattle.flat_model_laws.proofs.ExamplesAudits.{copied}
use Rattle.flat_model_laws.proofs.examples.audits.receipt_copied.Goals as goal

pub returns : goal.returns
returns c = copied
