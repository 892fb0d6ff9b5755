use Rattle.journal_laws.proofs.FileMeanings.{fault_for}
use Rattle.journal_laws.proofs.files.readings_are_the_models.Goals as goal

pub returns-clause-all : goal.returns-clause-all
returns-clause-all c = fault_for
