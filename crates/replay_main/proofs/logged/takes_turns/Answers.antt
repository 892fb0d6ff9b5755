use Rattle.std.proofs.Common.{rules, ◌≡◌, ◌+◌, ◌%◌, get_or, arith}
use Rattle.flat_model.specs.Log.{Entry}
use Rattle.replay_main.proofs.TurnSteps.{one_more}
use Rattle.replay_main.proofs.logged.takes_turns.Goals as goal

pub loop-i-preserved : goal.loop-i-preserved
loop-i-preserved c =
    let n = c.loop-i.i in
    let entries = c.args.entries.now in
    let here : (get_or entries n c.index-entries-i.result).session ≡ (c.args.turn + n) % c.args.workers =
    search (rules, c.index-entries-i.is, c.entry.view_is, c.from.ensures, c.if-from-turn.false) in
    one_more (λ (e : Entry). e.session) entries (λ m. (c.args.turn + m) % c.args.workers) n c.index-entries-i.result (omega (arith, c.loop-i-test.true)) here c.loop-i.invariant
