use Rattle.std.proofs.Common.{arith}
use Rattle.pids_charge.proofs.ParentRows.{put_table, row_inside, seen_put}
use Rattle.pids_charge.proofs.groups.GroupTable.put.Goals as goal

pub index_mut-requires : goal.index_mut-requires
index_mut-requires g c =
    let group = c.requires.group in
    let inside = row_inside c.self.inside.tree c.self.inside.rows.items c.self.invariant.has_rows c.args.self.now c.self.view_is c.self.invariant.has_parents
    group.path c.args.at c.from.result group.there group.here c.from.ensures in
    omega (arith, inside)

pub invariant_of-self : goal.invariant_of-self
invariant_of-self g c =
    let group = c.requires.group in
    put_table c.self.inside.tree c.self.inside.rows.items c.self.invariant.has_rows c.args.self.now c.self.view_is c.self.invariant.has_parents
    group.path c.args.at c.from.result group.there group.here c.from.ensures c.args.attr c.index_mut.result.now c.index_mut.ensures.value c.requires.same c.self.invariant.has_counts
    c.self.inside.kept c.self.invariant.keeps_paths

pub returns : goal.returns
returns g c = λ p i e.
    seen_put c.self.inside.tree c.self.inside.rows.items c.self.invariant.has_rows c.args.self.now c.self.view_is c.self.invariant.has_parents
    p c.args.at c.from.result i e c.from.ensures c.args.attr c.index_mut.result.now c.index_mut.ensures.value
