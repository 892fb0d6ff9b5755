use Rattle.pids_charge.proofs.FlatChildren.{children-told}
use Rattle.pids_charge.proofs.charges.Charges.child_names.Goals as goal

pub returns : goal.returns
returns g c = children-told c.args.self.now c.self.inside.tree c.self.inside.processes c.self.view_is c.args.path.now c.child_names.result c.child_names.ensures
