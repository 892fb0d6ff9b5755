use Rattle.std.specs.FinMap as fin
use Rattle.group_tree.proofs.node.Node.+child_names.Given as goal

abbrev pub decreases-child_names : goal.decreases-child_names
decreases-child_names g l = fin.len l.self.now.groups
