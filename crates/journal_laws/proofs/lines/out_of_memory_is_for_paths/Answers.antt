use Rattle.journal_laws.proofs.LineFaults.{at_a_path}
use Rattle.journal_laws.proofs.lines.out_of_memory_is_for_paths.Goals as goal

pub returns-clause-only : goal.returns-clause-only
returns-clause-only c = at_a_path
