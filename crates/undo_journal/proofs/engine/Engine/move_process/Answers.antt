use Rattle.std.proofs.Common.{subst, refl, None}
use Rattle.flat_model.specs.Command as model
use Rattle.flat_model.specs.Inverse as model_inverse
use Rattle.flat_model.specs.Step.{home_of, peaks_upward}
use Rattle.undo_journal.specs.Answer.{Answers}
use Rattle.undo_journal.specs.History.{timeline_of}
use Rattle.undo_journal.specs.Timeline.{Timeline}
use Rattle.undo_journal.specs.declared.command.Command.TheVariants.{Move}
use Rattle.undo_journal.specs.declared.inverse.Inverse.TheVariants.{Moved}
use Rattle.undo_journal.specs.declared.reply.Reply.TheVariants.{Done}
use Rattle.undo_journal.proofs.Histories.{HasRecorded, has_recorded}
use Rattle.undo_journal.proofs.RefusalReplies.{answers_by}
use Rattle.undo_journal.proofs.engine.Engine.move_process.Goals as goal

-- what was pushed is the record of the command
made : (g : _) (c : goal.In_ok-push-in-Moved g)
    → HasRecorded g.M.Meter.SLOTS c.self.inside.forgotten (timeline_of c.self.inside.forgotten c.self.inside.charges c.self.inside.journal.items) c.move_process.new.self c.push.new.self.items (model.Move c.args.path.now c.args.pid)
made g c =
    let moved = rw c.in-Moved.is at c.in_ok-to.ensures.moved in
    has_recorded g.M.Meter.SLOTS c.self.inside.forgotten (timeline_of c.self.inside.forgotten c.self.inside.charges c.self.inside.journal.items)
    c.self.inside.charges c.move_process.new.self c.self.inside.journal.items c.push.new.self.items
    (record { command = Move c.in-Moved.to c.args.pid; inverse = Moved c.args.pid c.in-Moved.left.path c.in-Moved.left.peaks })
    (model.Move c.args.path.now c.args.pid)
    (model_inverse.Moved c.args.pid (home_of c.self.inside.charges c.args.pid) (peaks_upward c.self.inside.charges c.args.path.now))
    refl c.self.invariant c.reserve.ensures.items c.in_ok-push-in-Moved.ensures.items
    (λ i. (
      model.Move (moved.2 i) c.args.pid,
      model_inverse.Moved c.args.pid (moved.3 i) (moved.4 i),
    ))
    moved.0 refl moved.1

pub invariant_of-self-in-Moved : goal.invariant_of-self-in-Moved
invariant_of-self-in-Moved g c = (made g c).history

pub returns-in_ok-push-in-Moved-clause-ok : goal.returns-in_ok-push-in-Moved-clause-ok
returns-in_ok-push-in-Moved-clause-ok g c =
    let new = timeline_of c.self.inside.forgotten c.move_process.new.self c.push.new.self.items in
    let command = model.Move c.args.path.now c.args.pid in
    subst (λ (t : Timeline). Answers {A = g.row.A.Denot} g.M.Meter.SLOTS t command Done new) c.self.view_is
    (answers_by g.M.Meter.SLOTS (timeline_of c.self.inside.forgotten c.self.inside.charges c.self.inside.journal.items) command None Done new refl (rw c.in-Moved.is at c.in_ok-to.ensures.moved).0 (made g c).timeline refl)
