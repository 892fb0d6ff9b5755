use Rattle.pids_charge.specs.GroupRows.{attrs_of}
use Rattle.pids_charge.proofs.RowReads.{names_too}
use Rattle.pids_charge.proofs.groups.GroupTable.child_names.Goals as goal

pub returns : goal.returns
returns g c = names_too c.self.inside.tree (attrs_of c.self.inside.rows.items) c.self.invariant.has_rows c.args.self.now c.self.view_is c.args.path.now c.child_names.result c.child_names.ensures
