use Rattle.journal_laws.proofs.HistoryLaws.{step_keeps}
use Rattle.journal_laws.proofs.histories.history_is_kept.Goals as goal

pub returns-clause-reached : goal.returns-clause-reached
returns-clause-reached c = step_keeps
