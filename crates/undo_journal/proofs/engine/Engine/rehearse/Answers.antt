use Rattle.std.proofs.Common.{ℕ, Some, map, sym, ap, ◌∙◌}
use Rattle.flat_model.specs.Machine.{replies}
use Rattle.undo_journal.specs.CommandMeaning.{command_of}
use Rattle.undo_journal.proofs.EngineCopies.{one_said, all_said}
use Rattle.pids_charge.specs.declared.plain.TheConstants.{SLOTS}
use Rattle.undo_journal.proofs.engine.Engine.rehearse.Goals as goal

pub loop-cmd-preserved : goal.loop-cmd-preserved
loop-cmd-preserved g c =
    one_said SLOTS c.args.cmds.now c.loop-cmd.said.items c.loop-cmd.copy (map Some (replies SLOTS c.args.self.now.machine (map command_of c.args.cmds.now))) c.loop-cmd.cmd-index
    c.answer_in.new.self c.push.new.self.items c.cmd-item.result c.in_ok-answer_in.field-0 c.loop-cmd-test.true c.cmd-item.is c.in_ok-push.ensures.items c.in_ok-answer_in.ensures c.loop-cmd.invariant

pub returns : goal.returns
returns g c =
    all_said SLOTS c.args.cmds.now c.loop-cmd.said.items c.loop-cmd.copy
    (map Some (replies SLOTS c.args.self.now.machine (map command_of c.args.cmds.now))) c.loop-cmd.cmd-index c.loop-cmd-test.false
    c.loop-cmd.invariant
    ∙ sym (ap (λ (n : ℕ). map Some (replies n c.args.self.now.machine (map command_of c.args.cmds.now))) c.requires)
