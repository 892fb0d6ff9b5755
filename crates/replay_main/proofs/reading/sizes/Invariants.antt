use Rattle.std.proofs.Common.{◌≡◌, length, take}
use Rattle.replay_main.specs.Script.{all_commands, all_places}
use Rattle.replay_main.proofs.reading.sizes.Given as goal

abbrev pub invariant-loop-script : goal.invariant-loop-script
invariant-loop-script l =
    (l.places ≡ length (all_places (take l.script-index l.scripts)))
    × (l.commands ≡ length (all_commands (take l.script-index l.scripts)))
