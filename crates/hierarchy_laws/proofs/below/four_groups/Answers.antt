use Rattle.hierarchy_laws.proofs.BelowLaws.{three_below, one_below, none_below, root_names, a_names, c_names, b_names}
use Rattle.hierarchy_laws.proofs.below.four_groups.Goals as goal

pub returns : goal.returns
returns c = record {
  below_root = three_below;
  below_a = one_below;
  below_c = none_below;
  names_of_root = root_names;
  names_of_a = a_names;
  names_of_c = c_names;
  no_group = b_names;
}
