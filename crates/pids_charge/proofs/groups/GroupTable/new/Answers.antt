use Rattle.std.proofs.Common.{[], ◌∷◌, ◌++◌, List, ap, sym, ◌∙◌, subst}
use Rattle.pids_charge.specs.declared.group.Group.{Group}
use Rattle.pids_charge.specs.GroupRows.{HasCounts, HasParents, HasRows, attrs_of, belows_of, ups_of, with_rows}
use Rattle.group_tree.specs.Groups.{Groups}
use Rattle.pids_charge.proofs.CountsUp.{root_counts}
use Rattle.pids_charge.proofs.ParentRows.{root_parents}
use Rattle.pids_charge.proofs.PathRows.{none_kept}
use Rattle.pids_charge.proofs.RowReads.{alone_is, alone_rows}
use Rattle.pids_charge.proofs.groups.GroupTable.new.Goals as goal

pub invariant_of-result : goal.invariant_of-result
invariant_of-result g c =
    let row : Group = record { attr = c.args.root; below = 0; up = 0 } in
    let one = c.in_ok-push.ensures.items ∙ ap (λ (rows : List Group). rows ++ row ∷ []) c.new-rows.ensures.items in
    record {
      has_rows = subst (λ (rows : List Group). HasRows c.in_ok-tree.tree (attrs_of rows)) (sym one) (alone_rows c.args.root c.requires c.in_ok-tree.tree c.in_ok-tree.ensures c.known.ensures.closed);
      has_parents = subst (λ (rows : List Group). HasParents (with_rows c.in_ok-tree.tree (attrs_of rows)) (ups_of rows)) (sym one)
          (subst (λ (m : Groups). HasParents m (ups_of (row ∷ []))) (sym (alone_is c.args.root c.requires c.in_ok-tree.tree c.in_ok-tree.ensures)) (root_parents c.args.root));
      has_counts = subst (λ (rows : List Group). HasCounts (with_rows c.in_ok-tree.tree (attrs_of rows)) (belows_of rows)) (sym one)
          (subst (λ (m : Groups). HasCounts m (belows_of (row ∷ []))) (sym (alone_is c.args.root c.requires c.in_ok-tree.tree c.in_ok-tree.ensures)) (root_counts c.args.root));
      keeps_paths = none_kept c.in_ok-tree.tree c.in_ok-kept.kept c.in_ok-kept.ensures;
    }

pub returns : goal.returns
returns g c =
    let row : Group = record { attr = c.args.root; below = 0; up = 0 } in
    let one = c.in_ok-push.ensures.items ∙ ap (λ (rows : List Group). rows ++ row ∷ []) c.new-rows.ensures.items in
    ap (λ (rows : List Group). with_rows c.in_ok-tree.tree (attrs_of rows)) one ∙ alone_is c.args.root c.requires c.in_ok-tree.tree c.in_ok-tree.ensures
