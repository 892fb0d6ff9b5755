use Rattle.pids_charge.specs.declared.plain.TheConstants.{SLOTS}
use Rattle.charge_tests.proofs.CallBounds.{up_forked}
use Rattle.charge_tests.proofs.changes.fork_or_count.Goals as goal

pub returns : goal.returns
returns g c = record { up = λ n h. up_forked SLOTS n c.args.charges.now c.args.parent c.args.child c.fork_or_count.result c.fork_or_count.new.self h c.fork_or_count.ensures.forked c.fork_or_count.ensures.kept }
