use Rattle.group_tree.proofs.NodeRemoval.{there_is, leaf_is}
use Rattle.group_tree.proofs.remove.take_out.Goals as goal

pub returns-then-leaf : goal.returns-then-leaf
returns-then-leaf g c =
    (there_is _ _ _ _ _ _ c.as_slice-all.ensures.value c.as_slice-all.ensures.len c.requires c.index-all-at.is (leaf_is _ _ c.if-leaf.ensures c.attr-attr.ensures), c.remove-removed.ensures.items)
