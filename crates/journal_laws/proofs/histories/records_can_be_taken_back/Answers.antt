use Rattle.flat_model.specs.Inverse.{back}
use Rattle.undo_journal.proofs.Histories.{history_well}
use Rattle.undo_journal.proofs.RecordUndo.{step_ready}
use Rattle.journal_laws.proofs.histories.records_can_be_taken_back.Goals as goal

pub returns-clause-newest : goal.returns-clause-newest
returns-clause-newest c = λ slots gone s d i es h. step_ready slots s d i (history_well slots gone (back i s) es h.1) h.0
