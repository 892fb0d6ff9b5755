use Rattle.hierarchy_laws.proofs.SituationLaws.{root_is, absent_is, children_is, removed_is}
use Rattle.hierarchy_laws.proofs.trees.faults_of_a_removal.Goals as goal

pub returns : goal.returns
returns c = record {
  root = root_is;
  absent = absent_is;
  children = children_is;
  removed = removed_is;
}
