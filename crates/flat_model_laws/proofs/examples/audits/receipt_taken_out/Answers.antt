use Rattle.flat_model_laws.proofs.ExamplesAudits.{taken_out}
use Rattle.flat_model_laws.proofs.examples.audits.receipt_taken_out.Goals as goal

pub returns : goal.returns
returns c = taken_out
