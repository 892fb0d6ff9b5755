use Rattle.flat_model.specs.Command.{MakeGroup}
use Rattle.charge_tests.proofs.CallBounds.{up_halves}
use Rattle.charge_tests.proofs.changes.make_group.Goals as goal

pub returns-in_ok-make_group-in-None : goal.returns-in_ok-make_group-in-None
returns-in_ok-make_group-in-None g c = record { up = λ n h. up_halves n c.args.charges.now c.make_group.new.self (MakeGroup c.args.path.now) c.make_group.result h c.make_group.ensures.made c.make_group.ensures.kept }
