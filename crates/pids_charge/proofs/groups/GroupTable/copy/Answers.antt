use Rattle.std.proofs.Common.{List, ap, sym, ◌∙◌, subst}
use Rattle.group_tree.specs.Groups.{Groups}
use Rattle.pids_charge.specs.declared.group.Group.{Group}
use Rattle.pids_charge.specs.GroupRows.{HasTable, attrs_of, with_rows}
use Rattle.pids_charge.proofs.groups.GroupTable.copy.Goals as goal

pub invariant_of-result : goal.invariant_of-result
invariant_of-result g c =
    let all = c.in_ok-rows.ensures.items ∙ c.as_slice.ensures.value in
    subst (λ (t : Groups). HasTable t c.in_ok-rows.rows.items c.in_ok-kept.kept) (sym c.in_ok-tree.ensures)
    (subst (HasTable c.self.inside.tree c.in_ok-rows.rows.items) (sym c.in_ok-kept.ensures)
    (subst (λ (rows : List Group). HasTable c.self.inside.tree rows c.self.inside.kept) (sym all) c.self.invariant))

pub returns : goal.returns
returns g c =
    ap (λ (t : Groups). with_rows t (attrs_of c.in_ok-rows.rows.items)) c.in_ok-tree.ensures
    ∙ ap (λ (rows : List Group). with_rows c.self.inside.tree (attrs_of rows)) (c.in_ok-rows.ensures.items ∙ c.as_slice.ensures.value) ∙ c.self.view_is
