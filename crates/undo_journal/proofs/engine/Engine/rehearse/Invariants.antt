use Rattle.std.proofs.Common.{◌≡◌, ◌++◌, Some, map, drop}
use Rattle.flat_model.specs.Machine.{replies}
use Rattle.undo_journal.specs.CommandMeaning.{command_of, reply_of}
use Rattle.pids_charge.specs.declared.plain.TheConstants.{SLOTS}
use Rattle.undo_journal.proofs.engine.Engine.rehearse.Given as goal

-- what was said, and what the copy will say to the commands that are left, make up the whole
abbrev pub invariant-loop-cmd : goal.invariant-loop-cmd
invariant-loop-cmd g l =
    map reply_of l.said.items ++ map Some (replies SLOTS l.copy.machine (map command_of (drop l.cmd-index l.cmds)))
    ≡ map Some (replies SLOTS l.self.machine (map command_of l.cmds))
