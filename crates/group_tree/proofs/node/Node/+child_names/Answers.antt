use Rattle.std.proofs.Common.{rules, sym, subst, arith}
use Rattle.group_tree.specs.Node.{HasAscendingNames}
use Rattle.group_tree.proofs.NodeCopies.{falls_child, child_at_smaller}
use Rattle.group_tree.proofs.Walk.{find_none}
use Rattle.group_tree.proofs.NamesBelow.{names_here, names_down}
use Rattle.group_tree.proofs.NodeBoxes.{opened}
use Rattle.group_tree.proofs.node.Node.+child_names.Goals as goal

pub returns-in-None : goal.returns-in-None
returns-in-None g t c =
    let node = opened _ _ _ _ c.deref.ensures c.self.view_is c.self.invariant.0 in
    names_here _ _ _ _ _ _ _ node.view_is node.invariant.ascending c.in-None.ensures.steps.0 c.as_slice.ensures.value c.of.ensures

pub returns-in-Ok : goal.returns-in-Ok
returns-in-Ok g t c =
    let node = opened _ _ _ _ c.deref-in-Some.ensures c.self.view_is c.self.invariant.0 in
    names_down _ _ _ _ _ _ _ _ _ _ _ node.view_is node.invariant.ascending c.in-Some.ensures.steps c.in-Ok.ensures.value
    c.deref-in-Some-2.ensures.value c.index.ensures c.child_names.ensures

pub returns-in-Err : goal.returns-in-Err
returns-in-Err g t c =
    let node = opened _ _ _ _ c.deref-in-Some.ensures c.self.view_is c.self.invariant.0 in
    sym (find_none _ _ _ _ _ _ _ _ _ node.view_is node.invariant.ascending c.in-Some.ensures.steps c.in-Err.ensures.value c.deref-in-Some-2.ensures.value)

pub place-requires : goal.place-requires
place-requires g t c =
    let node = opened _ _ _ _ c.deref-in-Some.ensures c.self.view_is c.self.invariant.0 in
    subst HasAscendingNames (sym c.deref-in-Some-2.ensures.value) node.invariant.ascending

pub index-requires : goal.index-requires
index-requires g t c = omega (arith, c.in-Ok.ensures.bound, c.deref-in-Some-2.ensures.len)

pub child_names-requires : goal.child_names-requires
child_names-requires g t c κs within =
    let node = opened _ _ _ _ c.deref-in-Some.ensures c.self.view_is c.self.invariant.0 in
    let smaller = child_at_smaller _ _ _ _ _ _ _ node.view_is node.invariant.ascending c.deref-in-Some-2.ensures.value c.index.ensures c.in-Ok.ensures.bound in
    (falls_child _ _ _ c.decreases smaller, search (rules, within))
