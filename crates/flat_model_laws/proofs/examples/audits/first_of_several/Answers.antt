use Rattle.flat_model_laws.proofs.ExamplesAudits.{several}
use Rattle.flat_model_laws.proofs.examples.audits.first_of_several.Goals as goal

pub returns : goal.returns
returns c = several
