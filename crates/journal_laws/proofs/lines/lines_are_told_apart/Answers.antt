use Rattle.journal_laws.proofs.LineFaults.{fault_for}
use Rattle.journal_laws.proofs.lines.lines_are_told_apart.Goals as goal

pub returns-clause-all : goal.returns-clause-all
returns-clause-all c = fault_for
