use Rattle.undo_journal.proofs.Histories.{reached}
use Rattle.undo_journal.proofs.engine.Engine.known.Goals as goal

pub returns : goal.returns
returns g c = rw (← c.self.view_is) (reached g.M.Meter.SLOTS c.self.inside.forgotten c.self.inside.charges c.self.inside.journal.items c.self.invariant)
