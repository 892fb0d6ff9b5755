use Rattle.std.proofs.Common.{subst, refl, None}
use Rattle.flat_model.specs.Command as model
use Rattle.flat_model.specs.Inverse as model_inverse
use Rattle.flat_model.specs.Step.{home_of}
use Rattle.undo_journal.specs.Answer.{Answers}
use Rattle.undo_journal.specs.History.{timeline_of}
use Rattle.undo_journal.specs.Timeline.{Timeline}
use Rattle.undo_journal.specs.declared.command.Command.TheVariants.{Exit}
use Rattle.undo_journal.specs.declared.inverse.Inverse.TheVariants.{Exited}
use Rattle.undo_journal.specs.declared.reply.Reply.TheVariants.{Done}
use Rattle.undo_journal.proofs.Histories.{HasRecorded, has_recorded}
use Rattle.undo_journal.proofs.RefusalReplies.{answers_by}
use Rattle.undo_journal.proofs.engine.Engine.exit.Goals as goal

-- what was pushed is the record of the command
made : (g : _) (c : goal.In_ok-push-in-Ok g)
    → HasRecorded g.M.Meter.SLOTS c.self.inside.forgotten (timeline_of c.self.inside.forgotten c.self.inside.charges c.self.inside.journal.items) c.take_process.new.self c.push.new.self.items (model.Exit c.args.pid)
made g c =
    has_recorded g.M.Meter.SLOTS c.self.inside.forgotten (timeline_of c.self.inside.forgotten c.self.inside.charges c.self.inside.journal.items)
    c.self.inside.charges c.take_process.new.self c.self.inside.journal.items c.push.new.self.items
    (record { command = Exit c.args.pid; inverse = Exited c.args.pid c.in-Ok.path })
    (model.Exit c.args.pid)
    (model_inverse.Exited c.args.pid (home_of c.self.inside.charges c.args.pid))
    refl c.self.invariant c.reserve.ensures.items c.in_ok-push-in-Ok.ensures.items
    (λ i. (model.Exit c.args.pid, model_inverse.Exited c.args.pid ((rw c.in-Ok.is at c.take_process.ensures.old_home) i)))
    ((rw c.in-Ok.is at c.take_process.ensures.state).0) refl ((rw c.in-Ok.is at c.take_process.ensures.state).1)

pub invariant_of-self-in-Ok : goal.invariant_of-self-in-Ok
invariant_of-self-in-Ok g c = (made g c).history

pub returns-in_ok-push-in-Ok-clause-ok : goal.returns-in_ok-push-in-Ok-clause-ok
returns-in_ok-push-in-Ok-clause-ok g c =
    let new = timeline_of c.self.inside.forgotten c.take_process.new.self c.push.new.self.items in
    let command = model.Exit c.args.pid in
    subst (λ (t : Timeline). Answers {A = g.row.A.Denot} g.M.Meter.SLOTS t command Done new) c.self.view_is
    (answers_by g.M.Meter.SLOTS (timeline_of c.self.inside.forgotten c.self.inside.charges c.self.inside.journal.items) command None Done new refl ((rw c.in-Ok.is at c.take_process.ensures.state).0) (made g c).timeline refl)
