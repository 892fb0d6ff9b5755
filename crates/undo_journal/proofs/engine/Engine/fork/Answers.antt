use Rattle.std.proofs.Common.{◌≡◌, [], ◌∷◌, ◌++◌, subst, refl, None, Some, length, ap, ◌∙◌, arith}
use Rattle.std.proofs.lemmas.Bool.{ltb-true}
use Rattle.flat_model.specs.Command as model
use Rattle.flat_model.specs.Inverse as model_inverse
use Rattle.flat_model.specs.Step.{home_of, peaks_upward}
use Rattle.undo_journal.specs.Answer.{Answers}
use Rattle.undo_journal.specs.History.{timeline_of, journal_entry, records}
use Rattle.undo_journal.specs.Timeline.{Timeline}
use Rattle.undo_journal.specs.declared.command.Command.TheVariants.{Fork}
use Rattle.undo_journal.specs.declared.inverse.Inverse.TheVariants.{Counted, Forked}
use Rattle.undo_journal.specs.declared.journal.JournalEntry.{JournalEntry}
use Rattle.undo_journal.specs.declared.reply.Refusal.TheVariants.{PidsMax}
use Rattle.undo_journal.specs.declared.reply.Reply.TheVariants.{Done, Refused}
use Rattle.undo_journal.proofs.Histories.{HasRecorded, has_recorded, recorded_is, recorded_history, records_length}
use Rattle.undo_journal.proofs.RefusalReplies.{answers_by}
use Rattle.undo_journal.proofs.TotalBounds.{countable}
use Rattle.undo_journal.proofs.engine.Engine.fork.Goals as goal

pub fork_or_count-requires : goal.fork_or_count-requires
fork_or_count-requires g c = λ on.
    let e = records_length c.self.inside.journal.items in
    let l : c.len-2.result ≡ length c.self.inside.journal.items = omega (arith, ap length c.reserve.ensures.items) in
    countable g.M.Meter.SLOTS c.self.inside.forgotten c.self.inside.charges (records c.self.inside.journal.items) c.self.invariant (omega (arith, e, l, ltb-true _ _ on))

-- what was pushed is the record of the command
made : (g : _) (c : goal.In_ok-push-in-Made g)
    → HasRecorded g.M.Meter.SLOTS c.self.inside.forgotten (timeline_of c.self.inside.forgotten c.self.inside.charges c.self.inside.journal.items) c.fork_or_count.new.self c.push.new.self.items (model.Fork c.args.parent c.args.child)
made g c =
    let forked = rw c.in-Made.is at c.in_ok-peaks.ensures.forked in
    has_recorded g.M.Meter.SLOTS c.self.inside.forgotten (timeline_of c.self.inside.forgotten c.self.inside.charges c.self.inside.journal.items)
    c.self.inside.charges c.fork_or_count.new.self c.self.inside.journal.items c.push.new.self.items
    (record { command = Fork c.args.parent c.args.child; inverse = Forked c.args.child c.in-Made.peaks })
    (model.Fork c.args.parent c.args.child)
    (model_inverse.Forked c.args.child (peaks_upward c.self.inside.charges (home_of c.self.inside.charges c.args.parent)))
    refl c.self.invariant c.reserve.ensures.items c.in_ok-push-in-Made.ensures.items
    (λ i. (model.Fork c.args.parent c.args.child, model_inverse.Forked c.args.child (forked.2 i)))
    forked.0 refl forked.1

pub invariant_of-self-in-Made : goal.invariant_of-self-in-Made
invariant_of-self-in-Made g c = (made g c).history

pub returns-in_ok-push-in-Made-clause-ok : goal.returns-in_ok-push-in-Made-clause-ok
returns-in_ok-push-in-Made-clause-ok g c =
    let new = timeline_of c.self.inside.forgotten c.fork_or_count.new.self c.push.new.self.items in
    let command = model.Fork c.args.parent c.args.child in
    let forked = rw c.in-Made.is at c.in_ok-peaks.ensures.forked in
    subst (λ (t : Timeline). Answers {A = g.row.A.Denot} g.M.Meter.SLOTS t command Done new) c.self.view_is
    (answers_by g.M.Meter.SLOTS (timeline_of c.self.inside.forgotten c.self.inside.charges c.self.inside.journal.items) command None Done new refl forked.0 (made g c).timeline refl)

-- ---- a fork that was refused and counted

abbrev entry : (g : _) (c : goal.In_ok-push-in-Counted g) → JournalEntry g.row.A.Denot
entry g c = record { command = Fork c.args.parent c.args.child; inverse = Counted c.in-Counted.shared }

journal_is : (g : _) (c : goal.In_ok-push-in-Counted g) → c.push-in-Counted.new.self.items ≡ c.self.inside.journal.items ++ entry g c ∷ []
journal_is g c = c.in_ok-push-in-Counted.ensures.items ∙ ap (λ js. js ++ entry g c ∷ []) c.reserve.ensures.items

entry_is : (g : _) (c : goal.In_ok-push-in-Counted g)
    → ◌≡◌ {A = model.Command × model_inverse.Inverse} (journal_entry (entry g c)) (model.Fork c.args.parent c.args.child, model_inverse.Counted c.in-Counted.path)
entry_is g c = λ i. (model.Fork c.args.parent c.args.child, model_inverse.Counted ((rw c.in-Counted.is at c.in_ok-peaks.ensures.forked).2 i))

pub invariant_of-self-in-Counted : goal.invariant_of-self-in-Counted
invariant_of-self-in-Counted g c =
    let forked = rw c.in-Counted.is at c.in_ok-peaks.ensures.forked in
    let path = c.in-Counted.path in
    rw (journal_is g c)
    (recorded_history g.M.Meter.SLOTS c.self.inside.charges c.fork_or_count.new.self c.self.inside.journal.items (entry g c)
    (model.Fork c.args.parent c.args.child) (model_inverse.Counted path) (Some (model.OverPidsMax path))
    (entry_is g c) forked.0 refl forked.1 c.self.inside.forgotten c.self.invariant)

pub returns-in_ok-push-in-Counted-clause-ok : goal.returns-in_ok-push-in-Counted-clause-ok
returns-in_ok-push-in-Counted-clause-ok g c =
    let s = c.self.inside.charges in
    let command = model.Fork c.args.parent c.args.child in
    let forked = rw c.in-Counted.is at c.in_ok-peaks.ensures.forked in
    let path = c.in-Counted.path in
    let over = Some (model.OverPidsMax path) in
    let new = timeline_of c.self.inside.forgotten c.fork_or_count.new.self c.push-in-Counted.new.self.items in
    subst (λ (t : Timeline). Answers {A = g.row.A.Denot} g.M.Meter.SLOTS t command (Refused (PidsMax path)) new) c.self.view_is
    (answers_by g.M.Meter.SLOTS (timeline_of c.self.inside.forgotten s c.self.inside.journal.items) command over (Refused (PidsMax path)) new refl forked.0
    ((λ i. timeline_of c.self.inside.forgotten c.fork_or_count.new.self (journal_is g c i))
    ∙ (λ i. record {
      machine = recorded_is g.M.Meter.SLOTS s c.fork_or_count.new.self c.self.inside.journal.items (entry g c) command
          (model_inverse.Counted path) over (entry_is g c) forked.0 refl forked.1 i;
      forgotten = c.self.inside.forgotten;
    }))
    refl)
