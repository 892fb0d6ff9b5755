use Rattle.hierarchy_laws.proofs.SituationLaws.{set_is, unset_is}
use Rattle.hierarchy_laws.proofs.trees.only_a_group_is_set.Goals as goal

pub returns : goal.returns
returns c = record {
  there = set_is;
  absent = unset_is;
}
