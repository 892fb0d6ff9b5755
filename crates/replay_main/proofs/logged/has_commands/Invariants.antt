use Rattle.std.proofs.Common.{◌≡◌, map, take}
use Rattle.undo_journal.specs.CommandMeaning.{command_of}
use Rattle.replay_main.proofs.logged.has_commands.Given as goal

abbrev pub invariant-loop-i : goal.invariant-loop-i
invariant-loop-i l = map (λ e. e.command) (take l.i l.entries) ≡ map command_of (take l.i l.commands)
