use Rattle.std.proofs.Common.{refl}
use Rattle.hierarchy_laws.proofs.FlatLaws.{slots_up}
use Rattle.hierarchy_laws.proofs.trees.three_groups.Goals as goal

pub returns : goal.returns
returns c = record {
  chain = slots_up;
  root_chain = λ m. refl;
}
