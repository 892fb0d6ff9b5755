use Rattle.std.proofs.Common.{refl, arith}
use Rattle.pids_charge.specs.Lists.{row_at}
use Rattle.pids_charge.proofs.ParentRows.{row_inside}
use Rattle.pids_charge.proofs.groups.GroupTable.rows.Goals as goal

pub returns : goal.returns
returns g c = λ p i.
    let inside = row_inside c.self.inside.tree c.self.inside.rows.items c.self.invariant.has_rows c.args.self.now c.self.view_is c.self.invariant.has_parents
    p (row_at c.args.self.now p) (row_at c.args.self.now p) i refl refl in
    omega (arith, inside, c.len.ensures)
