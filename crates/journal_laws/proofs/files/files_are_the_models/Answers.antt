use Rattle.journal_laws.proofs.FileMeanings.{file_for}
use Rattle.journal_laws.proofs.files.files_are_the_models.Goals as goal

pub returns-clause-all : goal.returns-clause-all
returns-clause-all c = file_for
