use Rattle.group_tree.proofs.NodeSteps.{own_attr}
use Rattle.group_tree.proofs.NodeBoxes.{opened}
use Rattle.group_tree.proofs.node.Node.attr.Goals as goal

pub returns : goal.returns
returns g c =
    let node = opened _ _ _ _ c.deref.ensures c.self.view_is c.self.invariant.0 in
    own_attr _ _ _ _ node.view_is node.invariant.ascending
