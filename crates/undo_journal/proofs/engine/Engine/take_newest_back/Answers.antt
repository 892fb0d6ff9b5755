use Rattle.std.proofs.Common.{◌≡◌, true, false, Some, sym, ap, ◌∙◌, subst}
use Rattle.flat_model.specs.Command as model
use Rattle.flat_model.specs.Machine.{tick}
use Rattle.flat_model.specs.Inverse.{back}
use Rattle.undo_journal.specs.Answer.{Answers, undoes_without_memory}
use Rattle.undo_journal.specs.declared.reply.Reply.TheVariants.{NothingToUndo}
use Rattle.flat_model.specs.State.{State}
use Rattle.undo_journal.specs.CommandMeaning.{inverse_of}
use Rattle.undo_journal.specs.History.{timeline_of, records, IsHistory}
use Rattle.undo_journal.specs.Timeline.{Timeline, becomes}
use Rattle.undo_journal.specs.declared.journal.JournalEntry.{JournalEntry}
use Rattle.undo_journal.proofs.Undos.{on_err, empty_of, nothing_undone, snoc_of, popped, read_through, last_ready, needs_none, undone_is, reply_is, undone_history}
use Rattle.undo_journal.proofs.engine.Engine.take_newest_back.Goals as goal
use Rattle.undo_journal.proofs.engine.Engine.take_newest_back.Goals.{Joined-newest}

pub take_back-requires : goal.take_back-requires
take_back-requires g c =
    let r = snoc_of c.self.inside.journal.items c.in-Some.entry.now (read_through c.self.inside.journal.items c.deref.result.now c.in-Some.entry.now c.deref.ensures.value c.in-Some.ensures.value) in
    last_ready g.M.Meter.SLOTS c.self.inside.charges c.self.inside.journal.items r.0 c.in-Some.entry.now r.1 c.self.inside.forgotten c.self.invariant

pub returns-in_err-take_back-clause-err : goal.returns-in_err-take_back-clause-err
returns-in_err-take_back-clause-err g c = on_err c.from_residual.result ((λ i. timeline_of c.self.inside.forgotten (c.in_err-take_back.ensures.err i) c.self.inside.journal.items) ∙ c.self.view_is)

pub returns-in_err-take_back-clause-certain : goal.returns-in_err-take_back-clause-certain
returns-in_err-take_back-clause-certain g c =
    let r = snoc_of c.self.inside.journal.items c.in-Some.entry.now (read_through c.self.inside.journal.items c.deref.result.now c.in-Some.entry.now c.deref.ensures.value c.in-Some.ensures.value) in
    λ u.
    let f : false ≡ true = c.in_err-take_back.ensures.certain
    (needs_none g.M.Meter.SLOTS c.self.inside.charges c.self.inside.journal.items r.0 c.in-Some.entry.now r.1 c.self.inside.forgotten c.self.invariant
    (subst (λ (t : Timeline). undoes_without_memory g.M.Meter.SLOTS t.machine.past ≡ true) (sym c.self.view_is) u)) in cc

pub returns-in_default-clause-ok : goal.returns-in_default-clause-ok
returns-in_default-clause-ok g c =
    subst (λ (t : Timeline). Answers {A = g.row.A.Denot} g.M.Meter.SLOTS t model.Undo NothingToUndo t) c.self.view_is
    (nothing_undone g.M.Meter.SLOTS c.self.inside.forgotten c.self.inside.charges c.self.inside.journal.items (empty_of c.self.inside.journal.items c.deref.result.now c.deref.ensures.value c.in_default.ensures.value))

pub invariant_of-self : goal.invariant_of-self
invariant_of-self g c = subst (λ (s : State). IsHistory g.M.Meter.SLOTS c.self.inside.forgotten s (records c.self.inside.journal.items)) (sym c.in_err-take_back.ensures.err) c.self.invariant

new_is : (g : _) (c : Joined-newest g) → c.take_back.new.charges ≡ back (inverse_of c.in-Some-pop.newest.inverse) c.self.inside.charges
new_is g c =
    c.in_ok-take_back.ensures.ok
    ∙ ap (λ (e : JournalEntry g.row.A.Denot). back (inverse_of e.inverse) c.self.inside.charges)
    (sym (popped c.self.inside.journal.items c.pop.new.self.items c.in-Some-pop.newest c.in-Some.entry.now c.in-Some-pop.ensures.items
    (read_through c.self.inside.journal.items c.deref.result.now c.in-Some.entry.now c.deref.ensures.value c.in-Some.ensures.value)))

pub invariant_of-self-2 : goal.invariant_of-self-2
invariant_of-self-2 g c =
    undone_history g.M.Meter.SLOTS c.self.inside.charges c.self.inside.journal.items c.pop.new.self.items c.in-Some-pop.newest
    c.in-Some-pop.ensures.items c.take_back.new.charges (new_is g c) c.self.inside.forgotten c.self.invariant

pub returns-clause-ok : goal.returns-clause-ok
returns-clause-ok g c = record {
  state = undone_is g.M.Meter.SLOTS c.self.inside.charges c.self.inside.journal.items c.pop.new.self.items c.in-Some-pop.newest c.in-Some-pop.ensures.items c.take_back.new.charges (new_is g c) c.self.inside.forgotten
      ∙ ap (λ (t : Timeline). becomes t (tick g.M.Meter.SLOTS t.machine model.Undo).0) c.self.view_is;
  reply_is = ap (λ r. Some r)
      (sym (reply_is g.M.Meter.SLOTS c.self.inside.charges c.self.inside.journal.items c.pop.new.self.items c.in-Some-pop.newest
      c.in-Some-pop.ensures.items c.take_back.new.charges (new_is g c))
      ∙ ap (λ (t : Timeline). (tick g.M.Meter.SLOTS t.machine model.Undo).1) c.self.view_is);
}
