use Rattle.std.proofs.Common.{◌≡◌, ◌-◌, Some, None, List, length, sym, subst}
use Rattle.std.specs.List.{slice_get}
use Rattle.undo_journal.specs.declared.journal.JournalEntry.{JournalEntry}
use Rattle.undo_journal.proofs.Newest.{newest_is, no_newest}
use Rattle.undo_journal.proofs.engine.Engine.newest.Goals as goal

pub returns-in-Some : goal.returns-in-Some
returns-in-Some g c =
    rw (← c.self.view_is)
    (newest_is g.M.Meter.SLOTS c.self.inside.forgotten c.self.inside.charges c.self.inside.journal.items c.in-Some.entry.now
    (subst (λ (js : List (JournalEntry g.row.A.Denot)). slice_get js (length js - 1) ≡ Some c.in-Some.entry.now) c.deref.ensures.value (sym c.in-Some.ensures.value)) c.self.invariant)

pub returns-in-None : goal.returns-in-None
returns-in-None g c =
    rw (← c.self.view_is)
    (no_newest c.self.inside.charges c.self.inside.journal.items
    (subst (λ (js : List (JournalEntry g.row.A.Denot)). slice_get js (length js - 1) ≡ None) c.deref.ensures.value (sym c.in-None.ensures.value)))
