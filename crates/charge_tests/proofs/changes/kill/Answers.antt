use Rattle.flat_model.specs.Command.{Kill}
use Rattle.pids_charge.specs.declared.plain.TheConstants.{SLOTS}
use Rattle.charge_tests.proofs.CallBounds.{up_does}
use Rattle.charge_tests.proofs.changes.kill.Goals as goal

pub returns : goal.returns
returns g c = record { up = λ n h. up_does SLOTS n c.args.charges.now (Kill c.args.path.now) c.args.path.now c.kill_by.result c.kill_by.new.self h c.kill_by.ensures.state }
