use Rattle.std.proofs.Common.{rules, arith}
use Rattle.std.proofs.lemmas.Grind.{common_steps}
use Rattle.group_tree.proofs.NodeCopies.{falls_child, child_smaller, copied_node}
use Rattle.group_tree.proofs.NodeBoxes.{opened, still_node, still_named, copied_named}
use Rattle.group_tree.proofs.node.Node.+copy.Goals as goal

pub loop-child-init : goal.loop-child-init
loop-child-init g t c = c.new-children.ensures.items

pub offset_bounds-child-items-child-index : goal.offset_bounds-child-items-child-index
offset_bounds-child-items-child-index g t c = let h = c.loop-child-test.true in omega arith

pub bounds-child-items-child-index : goal.bounds-child-items-child-index
bounds-child-items-child-index g t c = c.loop-child-test.true

pub copy-requires : goal.copy-requires
copy-requires g t c κs within =
    let node = opened _ _ _ _ c.deref-source.ensures c.self.view_is c.self.invariant.0 in
    let smaller = child_smaller _ _ _ _ _ _ _ node.view_is node.invariant.ascending c.deref-child-items.ensures.value c.child-item.is c.loop-child-test.true in
    (falls_child _ _ _ c.decreases smaller, search (rules, within))

pub loop-child-smaller : goal.loop-child-smaller
loop-child-smaller g t c = let h = c.loop-child-test.true in omega arith

pub loop-child-preserved : goal.loop-child-preserved
loop-child-preserved g t c = let h = c.loop-child-test.true in grind (arith, common_steps)

pub invariant_of-result : goal.invariant_of-result
invariant_of-result g t c =
    let node = opened _ _ _ _ c.deref-source.ensures c.self.view_is c.self.invariant.0 in (
      still_node _ _ (λ k. k) c.in_ok-inner.ensures.ok
          (copied_node _ _ _ _ _ node.invariant c.deref-child-items.ensures.value c.loop-child-test.false c.loop-child.invariant),
      still_named _ _ _ c.in_ok-inner.ensures.ok
          (copied_named _ _ _ _ _ c.in_ok-name.ensures.same c.as_slice.ensures c.deref-source.ensures c.self.invariant.1),
    )
