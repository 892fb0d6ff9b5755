use Rattle.std.proofs.Common.{List, arith, sym, ap, ◌∙◌, subst}
use Rattle.std.proofs.lemmas.List.{length-map}
use Rattle.flat_model.specs.Path.{parent}
use Rattle.group_tree.specs.Groups.{Groups}
use Rattle.group_tree.specs.declared.attr.Attr.{Attr}
use Rattle.pids_charge.specs.GroupRows.{HasTable, attrs_of, with_rows}
use Rattle.pids_charge.proofs.InRows.{absent_is, found_is, left_is, number_is}
use Rattle.pids_charge.proofs.ParentRows.{attr_of, attr_read, up_is}
use Rattle.pids_charge.proofs.PathRows.{kept_left}
use Rattle.pids_charge.proofs.RowReads.{not_removed, refused_too}
use Rattle.pids_charge.proofs.TableChanges.{has_a_name, left_row, left_table}
use Rattle.pids_charge.proofs.groups.GroupTable.remove.Goals as goal

pub index-row-requires : goal.index-row-requires
index-row-requires g c =
    let inside = (c.self.invariant.has_rows.each c.args.path.now c.in-Ok.removed c.in-Ok.ensures.1).inside in
    omega (arith, inside, c.from.ensures, length-map c.self.inside.rows.items attr_of)

pub change_below-requires : goal.change_below-requires
change_below-requires g c =
    let there = number_is c.self.inside.tree (attrs_of c.self.inside.rows.items) c.self.invariant.has_rows c.args.self.now c.self.view_is c.args.path.now c.in-Ok.removed c.in-Ok.ensures.1 in
    let up = up_is c.self.inside.tree c.self.inside.rows.items c.self.invariant.has_rows c.args.self.now c.self.view_is c.self.invariant.has_parents
    c.args.path.now c.in-Ok.removed.slot c.from.result there.0 there.1 c.from.ensures c.index-row.result.now c.index-row.ensures in
    let row = left_row c.self.inside.tree c.self.inside.rows.items c.self.invariant.has_rows c.args.self.now c.self.view_is c.self.invariant.has_parents
    c.args.path.now (has_a_name c.args.path.now c.in-Ok.ensures.0) c.in-Ok.removed c.in-Ok.ensures.1 c.remove.new.self c.in-Ok.ensures.3 c.known.ensures.closed c.index-row.result.now.up up c.known-in-Ok.ensures.shallow in
    record { tree = c.remove.new.self; path = parent c.args.path.now; is = row }

pub invariant_of-self : goal.invariant_of-self
invariant_of-self g c =
    let there = number_is c.self.inside.tree (attrs_of c.self.inside.rows.items) c.self.invariant.has_rows c.args.self.now c.self.view_is c.args.path.now c.in-Ok.removed c.in-Ok.ensures.1 in
    let up = up_is c.self.inside.tree c.self.inside.rows.items c.self.invariant.has_rows c.args.self.now c.self.view_is c.self.invariant.has_parents
    c.args.path.now c.in-Ok.removed.slot c.from.result there.0 there.1 c.from.ensures c.index-row.result.now c.index-row.ensures in
    let row = left_row c.self.inside.tree c.self.inside.rows.items c.self.invariant.has_rows c.args.self.now c.self.view_is c.self.invariant.has_parents
    c.args.path.now (has_a_name c.args.path.now c.in-Ok.ensures.0) c.in-Ok.removed c.in-Ok.ensures.1 c.remove.new.self c.in-Ok.ensures.3 c.known.ensures.closed c.index-row.result.now.up up c.known-in-Ok.ensures.shallow in
    left_table c.self.inside.tree c.self.inside.rows.items c.self.invariant.has_rows c.args.self.now c.self.view_is c.self.invariant.has_parents
    c.args.path.now (has_a_name c.args.path.now c.in-Ok.ensures.0) c.in-Ok.removed c.in-Ok.ensures.1 c.remove.new.self c.in-Ok.ensures.3 c.known.ensures.closed c.index-row.result.now.up up
    c.self.invariant.has_counts c.change_below.new.rows.items c.change_below.ensures.attrs c.change_below.ensures.ups
    (c.change_below.ensures.below c.remove.new.self (parent c.args.path.now) row)
    c.forget.new.self (kept_left c.self.inside.tree c.self.inside.kept c.self.invariant.keeps_paths c.args.path.now c.in-Ok.removed c.in-Ok.ensures.1
    c.remove.new.self c.in-Ok.ensures.3 c.forget.new.self c.forget.ensures)

pub invariant_of-self-in-Err : goal.invariant_of-self-in-Err
invariant_of-self-in-Err g c =
    let gone = not_removed c.self.inside.tree (attrs_of c.self.inside.rows.items) c.self.invariant.has_rows c.args.self.now c.self.view_is c.args.path.now c.remove.new.self c.in-Err.fault c.in-Err.ensures in
    subst (λ (t : Groups). HasTable t c.self.inside.rows.items c.self.inside.kept) (sym gone) c.self.invariant

pub returns-in-Ok : goal.returns-in-Ok
returns-in-Ok g c =
    let tree = c.self.inside.tree in
    let rows : List Attr = attrs_of c.self.inside.rows.items in
    let e = c.in-Ok.ensures in (
      e.0,
      sym (found_is tree rows c.self.invariant.has_rows c.args.self.now c.self.view_is c.args.path.now c.in-Ok.removed c.index-row.result.now.attr e.1
          (attr_read c.self.inside.rows.items c.from.result c.in-Ok.removed.slot c.index-row.result.now c.index-row.ensures c.from.ensures)),
      λ q below. absent_is tree rows c.self.invariant.has_rows c.args.self.now c.self.view_is q (e.2 q below),
      ap (with_rows c.remove.new.self) c.change_below.ensures.attrs ∙ left_is tree rows c.self.invariant.has_rows c.args.self.now c.self.view_is c.args.path.now c.remove.new.self e.3,
    )

pub returns-in-Err : goal.returns-in-Err
returns-in-Err g c =
    let tree = c.self.inside.tree in
    let rows : List Attr = attrs_of c.self.inside.rows.items in
    let gone = not_removed tree rows c.self.invariant.has_rows c.args.self.now c.self.view_is c.args.path.now c.remove.new.self c.in-Err.fault c.in-Err.ensures in
    refused_too tree rows c.self.invariant.has_rows c.args.self.now c.self.view_is c.args.path.now c.remove.new.self (with_rows c.remove.new.self rows) c.in-Err.fault
    (ap (λ (t : Groups). with_rows t rows) gone ∙ c.self.view_is) c.in-Err.ensures
