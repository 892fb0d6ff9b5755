-- What a tree of the root alone has, and what each tree has above a group.
use Rattle.std.proofs.Common.{◌≡◌, ◌↔◌, true, false, cond, [], Some, refl, sym, ap, ◌∙◌}
use Rattle.std.specs.Ordering.{eq_by_cmp}
use Rattle.std.specs.FinMap.{get, empty, get-insert, get-empty}
use Rattle.flat_model.specs.Path.{Path, path_cmp}
use Rattle.flat_model.specs.Counts.{is_group}
use Rattle.flat_model.proofs.PathLaws.{path_cmp-IsTotalOrder, path_cmp-IsAntisymmetric}
use Rattle.flat_model.proofs.Maps.{get-own, key_of}
use Rattle.group_tree.specs.declared.attr.Attr.{Attr}
use Rattle.group_tree.specs.Groups.{Groups, IsClosed, only_root}
use Rattle.group_tree.specs.Flat.{without_processes}
use Rattle.hierarchy_laws.proofs.FlatLaws.{there_is}

alone_only : (a : Attr) (p : Path) (x : Attr) → get (only_root a) p ≡ Some x → (p ≡ []) × (x ≡ a)
alone_only a p x h =
    elim (eq_by_cmp path_cmp p []) as (λ b. eq_by_cmp path_cmp p [] ≡ b → cond b (Some a) (get (empty {R = path_cmp}) p) ≡ Some x → (p ≡ []) × (x ≡ a)) [
      | true ↦ λ t e. (key_of path_cmp-IsAntisymmetric p [] t, (let same : a ≡ x = cc in sym same))
      | false ↦ λ t e. let n = get-empty {X = Attr} path_cmp p in cc
    ] refl (sym (get-insert path_cmp-IsTotalOrder (empty {R = path_cmp}) [] a p) ∙ h)

pub alone_is : (a : Attr) (p : Path) (x : Attr) → (get (only_root a) p ≡ Some x) ↔ ((p ≡ []) × (x ≡ a))
alone_is a p x = (
  alone_only a p x,
  λ h. ap (get (only_root a)) h.0 ∙ get-own path_cmp-IsTotalOrder path_cmp-IsAntisymmetric (empty {R = path_cmp}) [] a ∙ ap Some (sym h.1),
)

pub root_is_there : (m : Groups) → IsClosed m → is_group (without_processes m) [] ≡ true
root_is_there m c = there_is m [] ∙ c.root
