use Rattle.std.proofs.Common.{◌≡◌, [], Some, option_map, unwrap_or, refl, sym, ◌∙◌, subst, ap}
use Rattle.flat_model.specs.Command as model
use Rattle.flat_model.specs.Step.{refusal}
use Rattle.undo_journal.specs.CommandMeaning.{refusal_of}
use Rattle.undo_journal.specs.Timeline.{Timeline}
use Rattle.undo_journal.proofs.RefusalReplies.{refused_answers}
use Rattle.undo_journal.proofs.engine.Engine.locate.Goals as goal

pub returns-in-Some : goal.returns-in-Some
returns-in-Some g c =
    refused_answers g.M.Meter.SLOTS c.args.self.now (model.Locate c.args.pid) c.in_ok-refusal.refusal refl refl
    (subst (λ (t : Timeline). refusal g.M.Meter.SLOTS t.machine.state (model.Locate c.args.pid) ≡ Some (refusal_of c.in_ok-refusal.refusal)) c.self.view_is
    (c.in-Some.ensures.first (unwrap_or (option_map (λ p. p.now) c.home.result) []) ∙ ap (λ (r : model.Refusal). Some r) (sym c.in_ok-refusal.ensures)))
