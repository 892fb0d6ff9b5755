use Rattle.std.proofs.Common.{sym, refl, Ok, Err, [], ◌∷◌, ◌+◌, ◌-◌, ◌%◌, ◌^◌}
use Rattle.group_tree.specs.Node.{NodeRemoves}
use Rattle.group_tree.proofs.Walk.{find_none}
use Rattle.group_tree.proofs.NodeSteps.{edited_at}
use Rattle.group_tree.proofs.NodeRemoval.{removes_at, removes_down, removes_here, taken}
use Rattle.group_tree.proofs.NodeCounts.{shrunk_node, stayed_node}
use Rattle.group_tree.proofs.NodeBoxes.{opened, children_of, still_node, still_groups, still_named}
use Rattle.group_tree.proofs.node.Node.+remove.Goals as goal

pub invariant_of-self : goal.invariant_of-self
invariant_of-self g t c =
    let node = opened _ _ _ _ c.deref_mut.ensures.value c.self.view_is c.self.invariant.0 in
    let slice = children_of _ _ _ _ c.deref-2.ensures.value c.deref.ensures c.deref_mut.ensures.value in
    let out = taken c.deref_mut.result.now.attr _ _ c.take_out.new.children.items c.args.self.now _ _ (Ok c.in-Ok-take_out.attr)
    node.invariant.ascending c.in-Ok.ensures.value slice c.in-Ok-take_out.ensures in (
      still_node _ _ (λ k. (k + (2 ^ 64 - 1)) % 2 ^ 64) c.deref_mut-in-Ok-take_out.ensures.value
          (shrunk_node c.deref_mut.result.now.attr _ _ _ node.invariant out.ascending _ (c.args.name.now ∷ []) c.in-Ok-take_out.attr out.removes refl),
      still_named _ _ _ c.deref_mut-in-Ok-take_out.ensures.value (still_named _ _ _ c.deref_mut.ensures.value c.self.invariant.1),
    )

pub invariant_of-self-in-Err-take_out : goal.invariant_of-self-in-Err-take_out
invariant_of-self-in-Err-take_out g t c =
    let node = opened _ _ _ _ c.deref_mut.ensures.value c.self.view_is c.self.invariant.0 in
    let slice = children_of _ _ _ _ c.deref-2.ensures.value c.deref.ensures c.deref_mut.ensures.value in
    let out = taken c.deref_mut.result.now.attr _ _ c.take_out.new.children.items c.args.self.now _ _ (Err c.in-Err-take_out.fault)
    node.invariant.ascending c.in-Ok.ensures.value slice c.in-Err-take_out.ensures in (
      stayed_node c.deref_mut.result.now.attr _ _ _ node.invariant out.ascending (c.args.name.now ∷ []) c.in-Err-take_out.fault out.removes,
      still_named _ _ _ c.deref_mut.ensures.value c.self.invariant.1,
    )

pub invariant_of-self-in-Ok-remove : goal.invariant_of-self-in-Ok-remove
invariant_of-self-in-Ok-remove g t c =
    let node = opened _ _ _ _ c.deref_mut-inner.ensures.value c.self.view_is c.self.invariant.0 in
    let slice = children_of _ _ _ _ c.deref-2.ensures.value c.deref.ensures c.deref_mut-inner.ensures.value in
    let e = edited_at _ _ _ _ _ _ node.invariant.ascending c.in-Ok.ensures.value slice c.index_mut-child.ensures.value c.remove.ensures.name in (
      still_node _ _ (λ k. (k + (2 ^ 64 - 1)) % 2 ^ 64) c.deref_mut-in-Ok-remove.ensures.value
          (shrunk_node c.deref_mut-inner.result.now.attr _ _ _ node.invariant e.ascending _ (c.args.name.now ∷ c.args.names) c.in-Ok-remove.attr
          (removes_at _ _ _ _ c.remove.new.self _ _ _ _ _ (Ok c.in-Ok-remove.attr) node.invariant.ascending c.in-Some.ensures.steps
          c.in-Ok.ensures.value slice c.index_mut-child.ensures.value c.remove.ensures.name c.in-Ok-remove.ensures.groups)
          refl),
      still_named _ _ _ c.deref_mut-in-Ok-remove.ensures.value (still_named _ _ _ c.deref_mut-inner.ensures.value c.self.invariant.1),
    )

pub invariant_of-self-in-Err-remove : goal.invariant_of-self-in-Err-remove
invariant_of-self-in-Err-remove g t c =
    let node = opened _ _ _ _ c.deref_mut-inner.ensures.value c.self.view_is c.self.invariant.0 in
    let slice = children_of _ _ _ _ c.deref-2.ensures.value c.deref.ensures c.deref_mut-inner.ensures.value in
    let e = edited_at _ _ _ _ _ _ node.invariant.ascending c.in-Ok.ensures.value slice c.index_mut-child.ensures.value c.remove.ensures.name in (
      stayed_node c.deref_mut-inner.result.now.attr _ _ _ node.invariant e.ascending (c.args.name.now ∷ c.args.names) c.in-Err-remove.fault
          (removes_at _ _ _ _ c.remove.new.self _ _ _ _ _ (Err c.in-Err-remove.fault) node.invariant.ascending c.in-Some.ensures.steps
          c.in-Ok.ensures.value slice c.index_mut-child.ensures.value c.remove.ensures.name c.in-Err-remove.ensures.groups),
      still_named _ _ _ c.deref_mut-inner.ensures.value c.self.invariant.1,
    )

pub returns-in-Err-clause-groups : goal.returns-in-Err-clause-groups
returns-in-Err-clause-groups g t c =
    let node = opened _ _ _ _ c.deref.ensures c.self.view_is c.self.invariant.0 in
    (sym (find_none _ _ _ _ _ _ _ _ _ node.view_is node.invariant.ascending refl c.in-Err.ensures.value c.deref-2.ensures.value), refl)

pub returns-in-Ok-take_out-clause-groups : goal.returns-in-Ok-take_out-clause-groups
returns-in-Ok-take_out-clause-groups g t c =
    let node = opened _ _ _ _ c.deref_mut.ensures.value c.self.view_is c.self.invariant.0 in
    let slice = children_of _ _ _ _ c.deref-2.ensures.value c.deref.ensures c.deref_mut.ensures.value in
    still_groups (λ m. NodeRemoves c.args.self.now.groups m (c.args.name.now ∷ c.args.names) (Ok c.in-Ok-take_out.attr)) _ _ c.deref_mut-in-Ok-take_out.ensures.value
    (removes_here _ _ _ c.take_out.new.children.items _ _ _ _ _ (Ok c.in-Ok-take_out.attr) node.view_is node.invariant.ascending
    c.in-None.ensures.steps.0 c.in-Ok.ensures.value slice c.in-Ok-take_out.ensures)

pub returns-in-Err-take_out-clause-groups : goal.returns-in-Err-take_out-clause-groups
returns-in-Err-take_out-clause-groups g t c =
    let node = opened _ _ _ _ c.deref_mut.ensures.value c.self.view_is c.self.invariant.0 in
    let slice = children_of _ _ _ _ c.deref-2.ensures.value c.deref.ensures c.deref_mut.ensures.value in
    removes_here _ _ _ c.take_out.new.children.items _ _ _ _ _ (Err c.in-Err-take_out.fault) node.view_is node.invariant.ascending
    c.in-None.ensures.steps.0 c.in-Ok.ensures.value slice c.in-Err-take_out.ensures

pub returns-in-Ok-remove-clause-groups : goal.returns-in-Ok-remove-clause-groups
returns-in-Ok-remove-clause-groups g t c =
    let node = opened _ _ _ _ c.deref_mut-inner.ensures.value c.self.view_is c.self.invariant.0 in
    let slice = children_of _ _ _ _ c.deref-2.ensures.value c.deref.ensures c.deref_mut-inner.ensures.value in
    still_groups (λ m. NodeRemoves c.args.self.now.groups m (c.args.name.now ∷ c.args.names) (Ok c.in-Ok-remove.attr)) _ _ c.deref_mut-in-Ok-remove.ensures.value
    (removes_down _ _ _ _ _ c.remove.new.self _ _ _ _ _ _ (Ok c.in-Ok-remove.attr) node.view_is node.invariant.ascending
    c.in-Some.ensures.steps c.in-Ok.ensures.value slice c.index_mut-child.ensures.value c.remove.ensures.name
    c.in-Ok-remove.ensures.groups)

pub returns-in-Err-remove-clause-groups : goal.returns-in-Err-remove-clause-groups
returns-in-Err-remove-clause-groups g t c =
    let node = opened _ _ _ _ c.deref_mut-inner.ensures.value c.self.view_is c.self.invariant.0 in
    let slice = children_of _ _ _ _ c.deref-2.ensures.value c.deref.ensures c.deref_mut-inner.ensures.value in
    removes_down _ _ _ _ _ c.remove.new.self _ _ _ _ _ _ (Err c.in-Err-remove.fault) node.view_is node.invariant.ascending
    c.in-Some.ensures.steps c.in-Ok.ensures.value slice c.index_mut-child.ensures.value c.remove.ensures.name
    c.in-Err-remove.ensures.groups
