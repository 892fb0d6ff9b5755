use Rattle.flat_model.specs.Command.{SetLimit}
use Rattle.group_tree.specs.Flat.{limit_of, limit_file_of}
use Rattle.pids_charge.specs.declared.plain.TheConstants.{SLOTS}
use Rattle.charge_tests.proofs.CallBounds.{up_does}
use Rattle.charge_tests.proofs.changes.set_limit.Goals as goal

pub returns : goal.returns
returns g c = record {
  up = λ n h. up_does SLOTS n c.args.charges.now (SetLimit c.args.path.now (limit_file_of c.args.file) (limit_of c.args.limit))
      c.args.path.now c.set_limit.result c.set_limit.new.self h c.set_limit.ensures.state;
}
