use Rattle.std.proofs.Common.{refl, ◌+◌, length, arith}
use Rattle.undo_journal.proofs.Histories.{reached}
use Rattle.undo_journal.proofs.TotalBounds.{start_first, first_again}
use Rattle.journal_laws.proofs.histories.journals_are_histories.Goals as goal

pub returns-clause-start : goal.returns-clause-start
returns-clause-start c = λ slots s. (λ h. h.unforgotten refl, start_first slots s)

pub returns-clause-forgotten : goal.returns-clause-forgotten
returns-clause-forgotten c = λ slots gone s es h room. first_again slots gone s es h (gone + length es) (grind (arith, room))

pub returns-clause-reached : goal.returns-clause-reached
returns-clause-reached c = λ slots gone s journal h. reached slots gone s journal h
