use Rattle.std.proofs.Common.{◌≡◌, Some, None, List, length, refl, sym, subst}
use Rattle.std.proofs.lemmas.Option.{slice_get_past, slice_get_read}
use Rattle.std.specs.List.{slice_get}
use borrow.Author.Tests.{ltb-true, ltb-false}
use Rattle.undo_journal.specs.declared.journal.JournalEntry.{JournalEntry}
use Rattle.undo_journal.proofs.CommandRecords.{command_is}
use Rattle.undo_journal.proofs.engine.Engine.command_at.Goals as goal

pub returns-in-Some : goal.returns-in-Some
returns-in-Some g c =
    let js = c.deref.result.now in
    let found = c.in-Some.ensures.lookup in
    let at : slice_get js c.args.place ≡ Some c.in-Some.entry.now = slice_get_read js (length js) c.args.place c.in-Some.entry.now refl (ltb-true c.args.place (length js) (sym found.0)) found.1 in
    rw (← c.self.view_is)
    (command_is c.self.inside.charges c.self.inside.journal.items c.args.place (Some c.in-Some.entry.now)
    (subst (λ (es : List (JournalEntry g.row.A.Denot)). slice_get es c.args.place ≡ Some c.in-Some.entry.now) c.deref.ensures.value at))

pub returns-in-None : goal.returns-in-None
returns-in-None g c =
    let js = c.deref.result.now in
    let at : slice_get js c.args.place ≡ None = slice_get_past js c.args.place (ltb-false c.args.place (length js) (sym c.in-None.ensures.lookup.0)) in
    rw (← c.self.view_is)
    (command_is c.self.inside.charges c.self.inside.journal.items c.args.place None
    (subst (λ (es : List (JournalEntry g.row.A.Denot)). slice_get es c.args.place ≡ None) c.deref.ensures.value at))
