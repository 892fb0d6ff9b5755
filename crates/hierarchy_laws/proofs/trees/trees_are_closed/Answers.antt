use Rattle.hierarchy_laws.proofs.ClosedLaws.{alone_is, root_is_there}
use Rattle.group_tree.proofs.GroupPrefixes.{prefix_there}
use Rattle.hierarchy_laws.proofs.trees.trees_are_closed.Goals as goal

pub returns : goal.returns
returns c = record {
  alone = λ a x p. alone_is a p x;
  root = root_is_there;
  above = λ m p q h. prefix_there m h p q;
}
