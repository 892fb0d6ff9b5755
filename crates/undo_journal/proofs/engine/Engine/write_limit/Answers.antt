use Rattle.std.proofs.Common.{◌∙◌, refl}
use Rattle.flat_model.specs.Command as model
use Rattle.flat_model.specs.Inverse as model_inverse
use Rattle.flat_model.specs.Step.{attr_of, limit_at}
use Rattle.undo_journal.specs.declared.command.Command.TheVariants.{SetLimit}
use Rattle.undo_journal.specs.declared.inverse.Inverse.TheVariants.{Limited}
use Rattle.undo_journal.proofs.Histories.{HasRecorded, has_recorded}
use Rattle.group_tree.specs.Flat.{limit_of, limit_file_of}
use Rattle.undo_journal.proofs.engine.Engine.write_limit.Goals as goal

-- what was pushed is the record of the command
made : (g : _) (c : goal.In_ok-push g)
    → HasRecorded g.M.Meter.SLOTS c.self.inside.forgotten c.args.self.now c.replace_limit.new.self c.push.new.self.items (model.SetLimit c.args.path.now (limit_file_of c.args.file) (limit_of c.args.value))
made g c =
    has_recorded g.M.Meter.SLOTS c.self.inside.forgotten c.args.self.now
    c.self.inside.charges c.replace_limit.new.self c.self.inside.journal.items c.push.new.self.items
    (record { command = SetLimit c.in_ok-named.named c.args.file c.args.value; inverse = Limited c.in_ok-limited.limited c.args.file c.in-Ok.older })
    (model.SetLimit c.args.path.now (limit_file_of c.args.file) (limit_of c.args.value))
    (model_inverse.Limited c.args.path.now (limit_file_of c.args.file) (limit_at (limit_file_of c.args.file) (attr_of c.self.inside.charges c.args.path.now)))
    c.self.view_is c.self.invariant c.reserve.ensures.items c.in_ok-push.ensures.items
    (λ i. (
      model.SetLimit (c.in_ok-named.ensures i) (limit_file_of c.args.file) (limit_of c.args.value),
      model_inverse.Limited ((c.in_ok-limited.ensures ∙ c.in_ok-named.ensures) i) (limit_file_of c.args.file)
          ((rw c.in-Ok.is at c.replace_limit.ensures.old_limit) i),
    ))
    c.requires refl ((rw c.in-Ok.is at c.replace_limit.ensures.state).1)

pub invariant_of-self-2 : goal.invariant_of-self-2
invariant_of-self-2 g c = (made g c).history

pub returns-clause-ok : goal.returns-clause-ok
returns-clause-ok g c = (made g c).timeline
