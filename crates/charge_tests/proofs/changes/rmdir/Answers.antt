use Rattle.std.proofs.Common.{Ok}
use Rattle.flat_model.specs.Command.{RemoveGroup}
use Rattle.pids_charge.specs.declared.plain.TheConstants.{SLOTS}
use Rattle.charge_tests.proofs.CallBounds.{up_does}
use Rattle.charge_tests.proofs.changes.rmdir.Goals as goal

pub returns-in-Ok : goal.returns-in-Ok
returns-in-Ok g c = record { up = λ n h. up_does SLOTS n c.args.charges.now (RemoveGroup c.args.path.now) c.args.path.now (Ok c.in-Ok.attr) c.rmdir.new.self h c.in-Ok.ensures.state }
