use Rattle.std.proofs.Common.{sym, refl}
use Rattle.group_tree.proofs.Walk.{find_none}
use Rattle.group_tree.proofs.NodeSteps.{edited_at}
use Rattle.group_tree.proofs.NodeAttributes.{sets_here, sets_at, sets_down}
use Rattle.group_tree.proofs.NodeCounts.{set_node}
use Rattle.group_tree.proofs.NodeBoxes.{opened, children_of, still_named}
use Rattle.group_tree.proofs.node.Node.+set.Goals as goal

pub invariant_of-self-in-Ok : goal.invariant_of-self-in-Ok
invariant_of-self-in-Ok g t c =
    let node = opened _ _ _ _ c.deref_mut.ensures.value c.self.view_is c.self.invariant.0 in
    let slice = children_of _ _ _ _ c.deref-in-Some.ensures.value c.deref.ensures c.deref_mut.ensures.value in
    let e = edited_at _ _ _ _ _ _ node.invariant.ascending c.in-Ok.ensures.value slice c.index_mut-child.ensures.value c.set.ensures.name in (
      set_node c.deref_mut.result.now.attr _ _ _ node.invariant e.ascending _ c.args.attr _
          (sets_at c.deref_mut.result.now.attr _ _ _ _ _ _ _ _ c.args.attr _ node.invariant.ascending c.in-Some.ensures.steps
          c.in-Ok.ensures.value slice c.index_mut-child.ensures.value c.set.ensures.name c.set.ensures.groups),
      still_named _ _ _ c.deref_mut.ensures.value c.self.invariant.1,
    )

pub returns-in-None-clause-groups : goal.returns-in-None-clause-groups
returns-in-None-clause-groups g t c =
    let node = opened _ _ _ _ c.deref_mut-inner.ensures.value c.self.view_is c.self.invariant.0 in
    sets_here _ c.args.attr _ _ _ _ node.view_is node.invariant.ascending c.in-None.ensures.steps.0

pub returns-in-Ok-clause-groups : goal.returns-in-Ok-clause-groups
returns-in-Ok-clause-groups g t c =
    let node = opened _ _ _ _ c.deref_mut.ensures.value c.self.view_is c.self.invariant.0 in
    let slice = children_of _ _ _ _ c.deref-in-Some.ensures.value c.deref.ensures c.deref_mut.ensures.value in
    sets_down _ _ _ _ _ _ _ _ _ _ _ c.args.attr _ node.view_is node.invariant.ascending c.in-Some.ensures.steps
    c.in-Ok.ensures.value slice c.index_mut-child.ensures.value c.set.ensures.name c.set.ensures.groups

pub returns-in-Err-clause-groups : goal.returns-in-Err-clause-groups
returns-in-Err-clause-groups g t c =
    let node = opened _ _ _ _ c.deref.ensures c.self.view_is c.self.invariant.0 in
    (sym (find_none _ _ _ _ _ _ _ _ _ node.view_is node.invariant.ascending c.in-Some.ensures.steps c.in-Err.ensures.value c.deref-in-Some.ensures.value), refl)
