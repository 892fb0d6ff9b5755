use Rattle.journal_laws.proofs.FileMeanings.{stands_for, stands_for_none, one_stands_for}
use Rattle.journal_laws.proofs.files.faults_stand_for_refusals.Goals as goal

pub returns : goal.returns
returns c = record { refused = stands_for; same = stands_for; others = stands_for_none; one = one_stands_for }
