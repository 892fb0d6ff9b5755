use Rattle.std.proofs.Common.{◌≡◌, Some, refl, sym, ◌∙◌, subst, ap}
use Rattle.flat_model.specs.Command as model
use Rattle.flat_model.specs.Step.{refusal}
use Rattle.undo_journal.specs.CommandMeaning.{refusal_of}
use Rattle.undo_journal.specs.Timeline.{Timeline}
use Rattle.undo_journal.proofs.RefusalReplies.{refused_answers}
use Rattle.undo_journal.proofs.engine.Engine.kill.Goals as goal

pub returns-in-Some-clause-ok : goal.returns-in-Some-clause-ok
returns-in-Some-clause-ok g c =
    refused_answers g.M.Meter.SLOTS c.args.self.now (model.Kill c.args.path.now) c.in_ok-refusal.refusal refl refl
    (subst (λ (t : Timeline). refusal g.M.Meter.SLOTS t.machine.state (model.Kill c.args.path.now) ≡ Some (refusal_of c.in_ok-refusal.refusal)) c.self.view_is
    (c.in-Some.ensures.first ∙ ap (λ (r : model.Refusal). Some r) (sym c.in_ok-refusal.ensures)))
