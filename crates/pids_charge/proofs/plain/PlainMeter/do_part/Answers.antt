use Rattle.pids_charge.specs.Table.{table_at}
use Rattle.pids_charge.proofs.Tokens.{still_charged}
use Rattle.pids_charge.proofs.plain.PlainMeter.do_part.Goals as goal

pub uncharge-requires-clause-charged : goal.uncharge-requires-clause-charged
uncharge-requires-clause-charged g c =
    still_charged (table_at c.args.self.now) (table_at c.loop-token.self) c.args.leaving.now c.loop-token.token-index _
    c.loop-token-test.true c.loop-token.invariant.content c.requires.charged
