use Rattle.flat_model_laws.proofs.HierarchyLimitsExact.{room_is, free_is, descendants_is, depth_is}
use Rattle.flat_model_laws.proofs.refusals.hierarchy_limits_are_exact.Goals as goal

pub returns : goal.returns
returns c = record {
  room = room_is;
  free = free_is;
  descendants = descendants_is;
  depth = depth_is;
}
