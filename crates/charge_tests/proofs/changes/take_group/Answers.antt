use Rattle.flat_model.specs.Command.{RemoveGroup}
use Rattle.charge_tests.proofs.CallBounds.{up_taken}
use Rattle.charge_tests.proofs.changes.take_group.Goals as goal

pub returns-in-None : goal.returns-in-None
returns-in-None g c = record { up = λ n h. up_taken n c.args.charges.now c.refuses_rmdir.new.self c.take_group.new.self (RemoveGroup c.args.path.now) h c.refuses_rmdir.ensures.kept c.take_group.ensures.state }
