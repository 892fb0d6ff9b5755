use Rattle.std.proofs.Common.{◌≡◌, ◌⊎◌, [], inl, inr, Bool, is_none, refl, sym, ap, ◌∙◌}
use Rattle.flat_model.specs.Command as model
use Rattle.flat_model.specs.Step.{refusal}
use Rattle.group_tree.specs.Flat.{limit_of, limit_file_of}
use Rattle.pids_charge.specs.Answers.{refusal_along}
use Rattle.undo_journal.specs.CommandMeaning.{command_of}
use Rattle.undo_journal.specs.Timeline.{Timeline}
use Rattle.undo_journal.specs.declared.command.Command.{Command}
use Rattle.undo_journal.specs.declared.command.Command.TheVariants.{Exit, Locate}
use Rattle.undo_journal.proofs.Acceptance.{decided, none_of}
use Rattle.undo_journal.proofs.engine.Engine.accepts.Goals as goal

at_either : {X : Type 0} (f : X → Bool) (x a b : X) (r : Bool) → (x ≡ a) ⊎ (x ≡ b) → r ≡ f a → r ≡ f b → r ≡ f x
at_either f x a b r (inl e) h k = h ∙ ap f (sym e)
at_either f x a b r (inr e) h k = k ∙ ap f (sym e)

pub returns-in-SetLimit-clause-told : goal.returns-in-SetLimit-clause-told
returns-in-SetLimit-clause-told g c =
    let command : model.Command = model.SetLimit c.in-SetLimit.path (limit_file_of c.in-SetLimit.file) (limit_of c.in-SetLimit.value) in
    none_of c.refuses_limit.result c.is_none-in-SetLimit.result c.is_none-in-SetLimit.ensures
    ∙ decided (refusal_along c.in-SetLimit.path) c.refuses_limit.result (refusal g.M.Meter.SLOTS c.self.inside.charges command) (c.refuses_limit.ensures.first (limit_of c.in-SetLimit.value))
    ∙ ap (λ (t : Timeline). is_none (refusal g.M.Meter.SLOTS t.machine.state command)) c.self.view_is
    ∙ ap (λ (cmd : Command g.row.B.Denot). is_none (refusal g.M.Meter.SLOTS c.args.self.now.machine.state (command_of cmd))) (sym c.in-SetLimit.is)

pub returns-in-Exit-clause-told : goal.returns-in-Exit-clause-told
returns-in-Exit-clause-told g c =
    let command : model.Command = model.Exit c.in-Exit.pid in
    none_of c.refuses_exit.result c.is_none-in-Exit.result c.is_none-in-Exit.ensures
    ∙ decided (refusal_along []) c.refuses_exit.result (refusal g.M.Meter.SLOTS c.self.inside.charges command) (c.refuses_exit.ensures.first [])
    ∙ ap (λ (t : Timeline). is_none (refusal g.M.Meter.SLOTS t.machine.state command)) c.self.view_is
    ∙ at_either (λ (cmd : Command g.row.B.Denot). is_none (refusal g.M.Meter.SLOTS c.args.self.now.machine.state (command_of cmd))) c.args.cmd.now (Exit c.in-Exit.pid) (Locate c.in-Exit.pid)
    (is_none (refusal g.M.Meter.SLOTS c.args.self.now.machine.state command)) c.in-Exit.is refl refl
