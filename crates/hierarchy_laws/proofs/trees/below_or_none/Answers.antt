use Rattle.hierarchy_laws.proofs.SituationLaws.{some_below_is, none_below_is}
use Rattle.hierarchy_laws.proofs.trees.below_or_none.Goals as goal

pub returns : goal.returns
returns c = record {
  some = some_below_is;
  none = none_below_is;
}
