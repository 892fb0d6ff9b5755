use Rattle.std.proofs.Common.{ap, sym, refl, is_some, Ok, Err, ◌+◌, ◌%◌, ◌^◌}
use Rattle.group_tree.specs.Node.{NodeInserts}
use Rattle.group_tree.proofs.Walk.{find_here}
use Rattle.group_tree.proofs.NodeSteps.{root_is_some, edited_at}
use Rattle.group_tree.proofs.NodeInsertion.{inserts_at, inserts_down, adds_leaf, no_parent, leaf_ok, leaf_err}
use Rattle.group_tree.proofs.NodeCounts.{grown_node, refused_node}
use Rattle.group_tree.proofs.NodeBoxes.{opened, children_of, still_node, still_groups, still_named}
use Rattle.group_tree.proofs.node.Node.+insert.Goals as goal

pub invariant_of-self : goal.invariant_of-self
invariant_of-self g t c =
    let node = opened _ _ _ _ c.deref_mut.ensures.value c.self.view_is c.self.invariant.0 in
    let slice = children_of _ _ _ _ c.deref-in-Some.ensures.value c.deref.ensures c.deref_mut.ensures.value in
    let e = edited_at _ _ _ _ _ _ node.invariant.ascending c.in-Ok.ensures.value slice c.index_mut-child.ensures.value c.insert.ensures.name in (
      still_node _ _ (λ k. (k + 1) % 2 ^ 64) c.deref_mut-in-Ok-insert.ensures.value
          (grown_node c.deref_mut.result.now.attr _ _ _ node.invariant e.ascending _ c.args.names c.args.attr c.in-Ok-insert.field-0
          (inserts_at _ _ _ _ c.insert.new.self _ _ _ _ c.args.attr (Ok c.in-Ok-insert.field-0) node.invariant.ascending c.in-Some.ensures.steps
          c.in-Ok.ensures.value slice c.index_mut-child.ensures.value c.insert.ensures.name c.insert.ensures.root
          c.in-Ok-insert.ensures.groups) refl),
      still_named _ _ _ c.deref_mut-in-Ok-insert.ensures.value (still_named _ _ _ c.deref_mut.ensures.value c.self.invariant.1),
    )

pub invariant_of-self-in-Err-insert : goal.invariant_of-self-in-Err-insert
invariant_of-self-in-Err-insert g t c =
    let node = opened _ _ _ _ c.deref_mut.ensures.value c.self.view_is c.self.invariant.0 in
    let slice = children_of _ _ _ _ c.deref-in-Some.ensures.value c.deref.ensures c.deref_mut.ensures.value in
    let e = edited_at _ _ _ _ _ _ node.invariant.ascending c.in-Ok.ensures.value slice c.index_mut-child.ensures.value c.insert.ensures.name in (
      refused_node c.deref_mut.result.now.attr _ _ _ node.invariant e.ascending c.args.names c.args.attr c.in-Err-insert.fault
          (inserts_at _ _ _ _ c.insert.new.self _ _ _ _ c.args.attr (Err c.in-Err-insert.fault) node.invariant.ascending c.in-Some.ensures.steps
          c.in-Ok.ensures.value slice c.index_mut-child.ensures.value c.insert.ensures.name c.insert.ensures.root
          c.in-Err-insert.ensures.groups),
      still_named _ _ _ c.deref_mut.ensures.value c.self.invariant.1,
    )

pub invariant_of-self-in-Ok-add_leaf : goal.invariant_of-self-in-Ok-add_leaf
invariant_of-self-in-Ok-add_leaf g t c =
    let node = opened _ _ _ _ c.deref_mut-in-None-next.ensures.value c.self.view_is c.self.invariant.0 in
    let slice = children_of _ _ _ _ c.deref-in-Some.ensures.value c.deref.ensures c.deref_mut-in-None-next.ensures.value in
    let l = adds_leaf c.deref_mut-in-None-next.result.now.attr _ _ _ _ _ _ _ c.args.attr node.invariant.ascending c.in-Some.ensures.steps
    c.in-None-next.ensures.steps.0 c.in-Err.ensures.value slice c.in-Ok-add_leaf.ensures.ok in (
      still_node _ _ (λ k. (k + 1) % 2 ^ 64) c.deref_mut-in-Ok-add_leaf.ensures.value
          (grown_node c.deref_mut-in-None-next.result.now.attr _ _ _ node.invariant l.ascending _ c.args.names c.args.attr tt (l.free, l.above, l.updated) refl),
      still_named _ _ _ c.deref_mut-in-Ok-add_leaf.ensures.value (still_named _ _ _ c.deref_mut-in-None-next.ensures.value c.self.invariant.1),
    )

pub returns-in-None-clause-root : goal.returns-in-None-clause-root
returns-in-None-clause-root g t c = root_is_some _ _ _ _ c.self.view_is c.self.invariant.0.ascending

pub returns-in-None-clause-groups : goal.returns-in-None-clause-groups
returns-in-None-clause-groups g t c = (ap is_some (sym (find_here _ _ _ _ _ c.self.view_is c.self.invariant.0.ascending c.in-None.ensures.steps.0)), refl)

pub returns-in-Ok-insert-clause-root : goal.returns-in-Ok-insert-clause-root
returns-in-Ok-insert-clause-root g t c = root_is_some _ _ _ _ c.self.view_is c.self.invariant.0.ascending

pub returns-in-Ok-insert-clause-groups : goal.returns-in-Ok-insert-clause-groups
returns-in-Ok-insert-clause-groups g t c =
    let node = opened _ _ _ _ c.deref_mut.ensures.value c.self.view_is c.self.invariant.0 in
    let slice = children_of _ _ _ _ c.deref-in-Some.ensures.value c.deref.ensures c.deref_mut.ensures.value in
    still_groups (λ m. NodeInserts c.args.self.now.groups m c.args.names c.args.attr (Ok c.in-Ok-insert.field-0)) _ _ c.deref_mut-in-Ok-insert.ensures.value
    (inserts_down _ _ _ _ _ c.insert.new.self _ _ _ _ _ c.args.attr (Ok c.in-Ok-insert.field-0) node.view_is node.invariant.ascending
    c.in-Some.ensures.steps c.in-Ok.ensures.value slice c.index_mut-child.ensures.value c.insert.ensures.name
    c.insert.ensures.root c.in-Ok-insert.ensures.groups)

pub returns-in-Err-insert-clause-root : goal.returns-in-Err-insert-clause-root
returns-in-Err-insert-clause-root g t c = root_is_some _ _ _ _ c.self.view_is c.self.invariant.0.ascending

pub returns-in-Err-insert-clause-groups : goal.returns-in-Err-insert-clause-groups
returns-in-Err-insert-clause-groups g t c =
    let node = opened _ _ _ _ c.deref_mut.ensures.value c.self.view_is c.self.invariant.0 in
    let slice = children_of _ _ _ _ c.deref-in-Some.ensures.value c.deref.ensures c.deref_mut.ensures.value in
    inserts_down _ _ _ _ _ c.insert.new.self _ _ _ _ _ c.args.attr (Err c.in-Err-insert.fault) node.view_is node.invariant.ascending
    c.in-Some.ensures.steps c.in-Ok.ensures.value slice c.index_mut-child.ensures.value c.insert.ensures.name
    c.insert.ensures.root c.in-Err-insert.ensures.groups

pub returns-in-Some-next-clause-root : goal.returns-in-Some-next-clause-root
returns-in-Some-next-clause-root g t c = root_is_some _ _ _ _ c.self.view_is c.self.invariant.0.ascending

pub returns-in-Some-next-clause-groups : goal.returns-in-Some-next-clause-groups
returns-in-Some-next-clause-groups g t c =
    let node = opened _ _ _ _ c.deref.ensures c.self.view_is c.self.invariant.0 in
    no_parent _ _ _ _ _ _ _ _ _ _ _ c.args.attr node.view_is node.invariant.ascending c.in-Some.ensures.steps c.in-Some-next.ensures.steps c.in-Err.ensures.value c.deref-in-Some.ensures.value

pub returns-in-Ok-add_leaf-clause-root : goal.returns-in-Ok-add_leaf-clause-root
returns-in-Ok-add_leaf-clause-root g t c = root_is_some _ _ _ _ c.self.view_is c.self.invariant.0.ascending

pub returns-in-Ok-add_leaf-clause-groups : goal.returns-in-Ok-add_leaf-clause-groups
returns-in-Ok-add_leaf-clause-groups g t c =
    let node = opened _ _ _ _ c.deref_mut-in-None-next.ensures.value c.self.view_is c.self.invariant.0 in
    let slice = children_of _ _ _ _ c.deref-in-Some.ensures.value c.deref.ensures c.deref_mut-in-None-next.ensures.value in
    still_groups (λ m. NodeInserts c.args.self.now.groups m c.args.names c.args.attr (Ok c.in-Ok-add_leaf.field-0)) _ _ c.deref_mut-in-Ok-add_leaf.ensures.value
    (leaf_ok _ _ _ _ _ _ _ _ _ _ _ node.view_is node.invariant.ascending c.in-Some.ensures.steps c.in-None-next.ensures.steps.0
    c.in-Err.ensures.value slice c.in-Ok-add_leaf.ensures.ok)

pub returns-in-Err-add_leaf-clause-root : goal.returns-in-Err-add_leaf-clause-root
returns-in-Err-add_leaf-clause-root g t c = root_is_some _ _ _ _ c.self.view_is c.self.invariant.0.ascending

pub returns-in-Err-add_leaf-clause-groups : goal.returns-in-Err-add_leaf-clause-groups
returns-in-Err-add_leaf-clause-groups g t c =
    let node = opened _ _ _ _ c.deref_mut-in-None-next.ensures.value c.self.view_is c.self.invariant.0 in
    let slice = children_of _ _ _ _ c.deref-in-Some.ensures.value c.deref.ensures c.deref_mut-in-None-next.ensures.value in
    leaf_err _ _ _ _ _ _ _ _ _ _ c.args.attr node.view_is node.invariant.ascending c.in-Some.ensures.steps
    c.in-None-next.ensures.steps.0 c.in-Err.ensures.value slice c.in-Err-add_leaf.ensures.err
