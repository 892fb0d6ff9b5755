use Rattle.flat_model.specs.Command.{Move}
use Rattle.pids_charge.specs.declared.plain.TheConstants.{SLOTS}
use Rattle.charge_tests.proofs.CallBounds.{up_does}
use Rattle.charge_tests.proofs.changes.migrate.Goals as goal

pub returns : goal.returns
returns g c = record { up = λ n h. up_does SLOTS n c.args.charges.now (Move c.args.path.now c.args.pid) c.args.path.now c.migrate.result c.migrate.new.self h c.migrate.ensures.state }
