use Rattle.undo_journal.proofs.TotalBounds.{start_first}
use Rattle.undo_journal.proofs.engine.Engine.new.Goals as goal

pub invariant_of-result : goal.invariant_of-result
invariant_of-result g c = rw (c.new-journal.ensures.items) (start_first g.M.Meter.SLOTS c.in_ok-charges.charges c.in_ok-charges.ensures)
