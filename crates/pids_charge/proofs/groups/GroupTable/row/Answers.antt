use Rattle.std.proofs.Common.{arith, sym, ◌∙◌}
use Rattle.pids_charge.specs.GroupRows.{attrs_of}
use Rattle.pids_charge.proofs.InRows.{found_is, row_is}
use Rattle.pids_charge.proofs.ParentRows.{attr_read, row_inside}
use Rattle.pids_charge.proofs.groups.GroupTable.row.Goals as goal

pub index-requires : goal.index-requires
index-requires g c =
    let inside = row_inside c.self.inside.tree c.self.inside.rows.items c.self.invariant.has_rows c.args.self.now c.self.view_is c.self.invariant.has_parents
    c.requires.path c.args.at c.from.result c.requires.there c.requires.here c.from.ensures in
    omega (arith, inside)

pub returns : goal.returns
returns g c = λ p i e.
    let its = row_is c.self.inside.tree (attrs_of c.self.inside.rows.items) c.self.invariant.has_rows c.args.self.now c.self.view_is p c.args.at i e in
    found_is c.self.inside.tree (attrs_of c.self.inside.rows.items) c.self.invariant.has_rows c.args.self.now c.self.view_is p its.attr c.index.result.now.attr its.there
    (attr_read c.self.inside.rows.items c.from.result its.attr.slot c.index.result.now c.index.ensures (c.from.ensures ∙ sym its.slot))
