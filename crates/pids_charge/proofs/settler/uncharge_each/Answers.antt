use Rattle.pids_charge.proofs.Tokens.{still_charged}
use Rattle.pids_charge.proofs.settler.uncharge_each.Goals as goal

pub uncharge-requires-clause-charged : goal.uncharge-requires-clause-charged
uncharge-requires-clause-charged g c =
    still_charged (g.M.Meter.content c.args.meter.now) (g.M.Meter.content c.loop-token.meter) c.args.leaving.now c.loop-token.token-index _
    c.loop-token-test.true c.loop-token.invariant.content c.requires.charged
