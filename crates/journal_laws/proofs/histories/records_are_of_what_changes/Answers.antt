use Rattle.journal_laws.proofs.HistoryLaws.{given_back, history_more}
use Rattle.journal_laws.proofs.histories.records_are_of_what_changes.Goals as goal

pub returns-clause-given_back : goal.returns-clause-given_back
returns-clause-given_back c = given_back

pub returns-clause-history : goal.returns-clause-history
returns-clause-history c = history_more
