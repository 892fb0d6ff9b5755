use Rattle.std.proofs.Common.{◌∙◌, ap, refl}
use Rattle.std.specs.Prelude.{Option, unwrap_or}
use Rattle.flat_model.specs.State.{Attr, fresh}
use Rattle.flat_model.specs.Command as model
use Rattle.flat_model.specs.Inverse as model_inverse
use Rattle.flat_model.specs.Step.{attr_of}
use Rattle.undo_journal.specs.declared.command.Command.TheVariants.{RemoveGroup}
use Rattle.undo_journal.specs.declared.inverse.Inverse.TheVariants.{Removed}
use Rattle.undo_journal.proofs.Histories.{HasRecorded, has_recorded}
use Rattle.undo_journal.proofs.engine.Engine.take_group.Goals as goal

-- what was pushed is the record of the command
made : (g : _) (c : goal.In_ok-push g)
    → HasRecorded g.M.Meter.SLOTS c.self.inside.forgotten c.args.self.now c.take_group.new.self c.push.new.self.items (model.RemoveGroup c.args.path.now)
made g c =
    has_recorded g.M.Meter.SLOTS c.self.inside.forgotten c.args.self.now
    c.self.inside.charges c.take_group.new.self c.self.inside.journal.items c.push.new.self.items
    (record { command = RemoveGroup c.in_ok-named.named; inverse = Removed c.in_ok-removed.removed (record c.in_ok-attr.attr { value = c.take_group.result }) })
    (model.RemoveGroup c.args.path.now)
    (model_inverse.Removed c.args.path.now (attr_of c.self.inside.charges c.args.path.now))
    c.self.view_is c.self.invariant c.reserve.ensures.items c.in_ok-push.ensures.items
    (λ i. (
      model.RemoveGroup (c.in_ok-named.ensures i),
      model_inverse.Removed ((c.in_ok-removed.ensures ∙ c.in_ok-named.ensures) i)
          (ap (λ (o : Option Attr). unwrap_or o fresh) c.take_group.ensures.attr i),
    ))
    c.requires refl c.take_group.ensures.state

pub invariant_of-self-2 : goal.invariant_of-self-2
invariant_of-self-2 g c = (made g c).history

pub returns-clause-ok : goal.returns-clause-ok
returns-clause-ok g c = (made g c).timeline
