use Rattle.std.proofs.Common.{◌≡◌, None, Some, refl, sym, ◌∙◌, subst, ap}
use Rattle.flat_model.specs.Command as model
use Rattle.flat_model.specs.Step.{refusal}
use Rattle.group_tree.specs.Flat.{limit_of, limit_file_of}
use Rattle.undo_journal.specs.CommandMeaning.{refusal_of}
use Rattle.undo_journal.specs.Timeline.{Timeline}
use Rattle.undo_journal.specs.declared.reply.Reply.TheVariants.{Done}
use Rattle.undo_journal.proofs.RefusalReplies.{answers_by, refused_answers}
use Rattle.undo_journal.proofs.engine.Engine.set_limit.Goals as goal

pub returns-in-Some-clause-ok : goal.returns-in-Some-clause-ok
returns-in-Some-clause-ok g c =
    refused_answers g.M.Meter.SLOTS c.args.self.now (model.SetLimit c.args.path.now (limit_file_of c.args.file) (limit_of c.args.value)) c.in_ok-refusal.refusal refl refl
    (subst (λ (t : Timeline). refusal g.M.Meter.SLOTS t.machine.state (model.SetLimit c.args.path.now (limit_file_of c.args.file) (limit_of c.args.value)) ≡ Some (refusal_of c.in_ok-refusal.refusal)) c.self.view_is
    (c.in-Some.ensures.first (limit_of c.args.value) ∙ ap (λ (r : model.Refusal). Some r) (sym c.in_ok-refusal.ensures)))

pub write_limit-requires : goal.write_limit-requires
write_limit-requires g c =
    subst (λ (t : Timeline). refusal g.M.Meter.SLOTS t.machine.state (model.SetLimit c.args.path.now (limit_file_of c.args.file) (limit_of c.args.value)) ≡ None) c.self.view_is
    (c.in_default.ensures.first (limit_of c.args.value))

pub returns-clause-ok : goal.returns-clause-ok
returns-clause-ok g c =
    answers_by g.M.Meter.SLOTS c.args.self.now (model.SetLimit c.args.path.now (limit_file_of c.args.file) (limit_of c.args.value)) None Done c.write_limit.new.self refl
    (subst (λ (t : Timeline). refusal g.M.Meter.SLOTS t.machine.state (model.SetLimit c.args.path.now (limit_file_of c.args.file) (limit_of c.args.value)) ≡ None) c.self.view_is
    (c.in_default.ensures.first (limit_of c.args.value))) c.in_ok-write_limit.ensures.ok refl
