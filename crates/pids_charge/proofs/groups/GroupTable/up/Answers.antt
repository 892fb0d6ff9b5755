use Rattle.std.proofs.Common.{arith}
use Rattle.pids_charge.proofs.ParentRows.{row_inside, up_is}
use Rattle.pids_charge.proofs.groups.GroupTable.up.Goals as goal

pub index-requires : goal.index-requires
index-requires g c =
    let inside = row_inside c.self.inside.tree c.self.inside.rows.items c.self.invariant.has_rows c.args.self.now c.self.view_is c.self.invariant.has_parents
    c.requires.path c.args.at c.from.result c.requires.there c.requires.here c.from.ensures in
    omega (arith, inside)

pub returns : goal.returns
returns g c = λ p i e.
    up_is c.self.inside.tree c.self.inside.rows.items c.self.invariant.has_rows c.args.self.now c.self.view_is c.self.invariant.has_parents
    p c.args.at c.from.result i e c.from.ensures c.index.result.now c.index.ensures
