use Rattle.std.proofs.Common.{arith}
use Rattle.std.proofs.lemmas.List.{length-map}
use Rattle.undo_journal.specs.CommandMeaning.{command_of}
use Rattle.replay_main.specs.Script.{place_of}
use Rattle.replay_main.proofs.LogParts.{commands_of, one_of, places_of}
use Rattle.replay_main.proofs.reading.sizes.Goals as goal

pub overflow_add-places : goal.overflow_add-places
overflow_add-places c =
    let s = c.script-item.result in
    let now = c.loop-script.invariant.0 in
    let more = one_of places_of c.args.scripts.now c.loop-script.script-index s (omega (arith, c.loop-script-test.true)) c.script-item.is in
    let len = c.len-places.ensures in
    let many = length-map s.places.items place_of in
    omega (arith, now, more, len, many, c.requires.places)

pub overflow_add-commands : goal.overflow_add-commands
overflow_add-commands c =
    let s = c.script-item.result in
    let now = c.loop-script.invariant.1 in
    let more = one_of commands_of c.args.scripts.now c.loop-script.script-index s (omega (arith, c.loop-script-test.true)) c.script-item.is in
    let len = c.len-commands.ensures in
    let many = length-map s.commands.items command_of in
    omega (arith, now, more, len, many, c.requires.commands)
