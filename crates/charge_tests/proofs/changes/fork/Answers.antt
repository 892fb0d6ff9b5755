use Rattle.flat_model.specs.Command.{Fork}
use Rattle.flat_model.specs.Step.{home_of}
use Rattle.pids_charge.specs.declared.plain.TheConstants.{SLOTS}
use Rattle.charge_tests.proofs.CallBounds.{up_does}
use Rattle.charge_tests.proofs.changes.fork.Goals as goal

pub returns : goal.returns
returns g c = record { up = λ n h. up_does SLOTS n c.args.charges.now (Fork c.args.parent c.args.child) (home_of c.args.charges.now c.args.parent) c.fork.result c.fork.new.self h c.fork.ensures.state }
