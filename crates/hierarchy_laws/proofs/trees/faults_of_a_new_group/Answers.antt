use Rattle.hierarchy_laws.proofs.SituationLaws.{exists_is, parent_is, made_is}
use Rattle.hierarchy_laws.proofs.trees.faults_of_a_new_group.Goals as goal

pub returns : goal.returns
returns c = record {
  exists = exists_is;
  no_parent = parent_is;
  made = made_is;
}
