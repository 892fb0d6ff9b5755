use Rattle.flat_model.specs.Command.{MakeGroup}
use Rattle.pids_charge.specs.declared.plain.TheConstants.{SLOTS}
use Rattle.charge_tests.proofs.CallBounds.{up_does}
use Rattle.charge_tests.proofs.changes.mkdir.Goals as goal

pub returns : goal.returns
returns g c = record { up = λ n h. up_does SLOTS n c.args.charges.now (MakeGroup c.args.path.now) c.args.path.now c.mkdir.result c.mkdir.new.self h c.mkdir.ensures.state }
