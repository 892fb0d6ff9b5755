use Rattle.flat_model_laws.proofs.ExamplesAudits.{changed}
use Rattle.flat_model_laws.proofs.examples.audits.reply_changed.Goals as goal

pub returns : goal.returns
returns c = changed
