use Rattle.std.proofs.Common.{refl}
use Rattle.hierarchy_laws.proofs.FlatLaws.{one_limit, one_group, reached_is, there_is, nobody_is}
use Rattle.hierarchy_laws.proofs.trees.groups_are_flat_groups.Goals as goal

pub returns : goal.returns
returns c = record {
  limits = one_limit;
  groups = one_group;
  local = λ a. refl;
  total = λ a. refl;
  peak = λ a. refl;
  pids = λ a. refl;
  descendants = λ a. refl;
  depth = λ a. refl;
  unlimited = λ n. refl;
  reached = reached_is;
  pids_file = refl;
  descendants_file = refl;
  depth_file = refl;
  there = there_is;
  nobody = nobody_is;
}
