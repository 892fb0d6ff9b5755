use Rattle.std.specs.FinMap as fin
use Rattle.group_tree.proofs.node.Node.+push_chain.Given as goal

abbrev pub decreases-push_chain : goal.decreases-push_chain
decreases-push_chain g l = fin.len l.self.now.groups
