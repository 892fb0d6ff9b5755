use Rattle.std.proofs.Common.{length, ap, arith}
use Rattle.replay_main.specs.Script.{all_commands, all_places}
use Rattle.replay_main.proofs.LogParts.{commands_of, no_more, part_at, places_of}
use Rattle.replay_main.proofs.texts.answer_at.Goals as goal

pub sizes-lines-requires-clause-places : goal.sizes-lines-requires-clause-places
sizes-lines-requires-clause-places c =
    let front = ap (λ t. length (all_places t)) c.first.ensures in
    let few = no_more places_of c.args.scripts.now c.args.at in
    omega (arith, front, few, c.requires.places)

pub sizes-lines-requires-clause-commands : goal.sizes-lines-requires-clause-commands
sizes-lines-requires-clause-commands c =
    let front = ap (λ t. length (all_commands t)) c.first.ensures in
    let few = no_more commands_of c.args.scripts.now c.args.at in
    omega (arith, front, few, c.requires.commands)

pub answer_script-requires-clause-lines : goal.answer_script-requires-clause-lines
answer_script-requires-clause-lines c =
    let front = ap (λ t. length (all_places t)) c.first.ensures in
    let few = no_more places_of c.args.scripts.now c.args.at in
    let size = c.sizes-lines.ensures.places in
    omega (arith, front, few, size, c.requires.places)

pub answer_script-requires-clause-turn : goal.answer_script-requires-clause-turn
answer_script-requires-clause-turn c =
    let front = ap (λ t. length (all_commands t)) c.first.ensures in
    let few = no_more commands_of c.args.scripts.now c.args.at in
    let size = c.sizes-lines.ensures.commands in
    omega (arith, front, few, size, c.requires.commands)

pub returns : goal.returns
returns c =
    part_at c.args.scripts.now c.args.at c.args.log.now c.in_ok-part.part c.index-scripts-at.result c.sizes-lines.result.0 c.sizes-lines.result.1 c.first.result.now c.behind.result.now
    c.requires.at c.index-scripts-at.is c.first.ensures c.sizes-lines.ensures.places c.sizes-lines.ensures.commands c.behind.ensures c.in_ok-part.ensures
