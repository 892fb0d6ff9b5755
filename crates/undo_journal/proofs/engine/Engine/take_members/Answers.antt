use Rattle.std.proofs.Common.{refl}
use Rattle.flat_model.specs.Command as model
use Rattle.flat_model.specs.Inverse as model_inverse
use Rattle.flat_model.specs.Inverse.{lost}
use Rattle.undo_journal.specs.declared.command.Command.TheVariants.{Kill}
use Rattle.undo_journal.specs.declared.inverse.Inverse.TheVariants.{Killed}
use Rattle.undo_journal.proofs.Histories.{HasRecorded, has_recorded}
use Rattle.undo_journal.proofs.engine.Engine.take_members.Goals as goal

-- what was pushed is the record of the command
made : (g : _) (c : goal.In_ok-push g)
    → HasRecorded g.M.Meter.SLOTS c.self.inside.forgotten c.args.self.now c.take_processes.new.self c.push.new.self.items (model.Kill c.args.path.now)
made g c =
    has_recorded g.M.Meter.SLOTS c.self.inside.forgotten c.args.self.now
    c.self.inside.charges c.take_processes.new.self c.self.inside.journal.items c.push.new.self.items
    (record { command = Kill c.in_ok-named.named; inverse = Killed c.in_ok-list.list })
    (model.Kill c.args.path.now)
    (model_inverse.Killed (lost c.self.inside.charges c.args.path.now))
    c.self.view_is c.self.invariant c.reserve.ensures.items c.in_ok-push.ensures.items
    (λ i. (model.Kill (c.in_ok-named.ensures i), model_inverse.Killed (c.in_ok-list.ensures.taken i)))
    c.requires refl c.in_ok-list.ensures.state

pub invariant_of-self-2 : goal.invariant_of-self-2
invariant_of-self-2 g c = (made g c).history

pub returns-clause-ok : goal.returns-clause-ok
returns-clause-ok g c = (made g c).timeline
