use Rattle.std.proofs.Common.{◌∙◌, refl}
use Rattle.flat_model.specs.Command as model
use Rattle.flat_model.specs.Inverse as model_inverse
use Rattle.undo_journal.specs.declared.command.Command.TheVariants.{MakeGroup}
use Rattle.undo_journal.specs.declared.inverse.Inverse.TheVariants.{Made}
use Rattle.undo_journal.proofs.Histories.{HasRecorded, has_recorded}
use Rattle.undo_journal.proofs.engine.Engine.add_group.Goals as goal

-- what was pushed is the record of the command
made : (g : _) (c : goal.In_ok-push g)
    → HasRecorded g.M.Meter.SLOTS c.self.inside.forgotten c.args.self.now c.make_group.new.self c.push.new.self.items (model.MakeGroup c.args.path.now)
made g c =
    has_recorded g.M.Meter.SLOTS c.self.inside.forgotten c.args.self.now
    c.self.inside.charges c.make_group.new.self c.self.inside.journal.items c.push.new.self.items
    (record { command = MakeGroup c.in_ok-named.named; inverse = Made c.in_ok-made.made })
    (model.MakeGroup c.args.path.now)
    (model_inverse.Made c.args.path.now)
    c.self.view_is c.self.invariant c.reserve.ensures.items c.in_ok-push.ensures.items
    (λ i. (model.MakeGroup (c.in_ok-named.ensures i), model_inverse.Made ((c.in_ok-made.ensures ∙ c.in_ok-named.ensures) i)))
    c.requires refl c.in_ok-make_group.ensures.made

pub invariant_of-self-2 : goal.invariant_of-self-2
invariant_of-self-2 g c = (made g c).history

pub returns-clause-ok : goal.returns-clause-ok
returns-clause-ok g c = (made g c).timeline
