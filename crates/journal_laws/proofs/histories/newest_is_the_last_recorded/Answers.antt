use Rattle.journal_laws.proofs.HistoryLaws.{newest_recorded}
use Rattle.journal_laws.proofs.histories.newest_is_the_last_recorded.Goals as goal

pub returns-clause-recorded : goal.returns-clause-recorded
returns-clause-recorded c = newest_recorded
