use Rattle.std.proofs.Common.{sym}
use Rattle.group_tree.proofs.NodeRemoval.{has_child}
use Rattle.group_tree.proofs.NodeBoxes.{opened}
use Rattle.group_tree.proofs.node.Node.is_leaf.Goals as goal

pub returns-else-is_empty : goal.returns-else-is_empty
returns-else-is_empty g c =
    let node = opened _ _ _ _ c.deref.ensures c.self.view_is c.self.invariant.0 in
    has_child _ _ _ _ _ _ _ node.view_is node.invariant.ascending c.as_slice-children.ensures.value (sym c.if-is_empty.ensures) c.index-children-0.is c.attr-attr.ensures
