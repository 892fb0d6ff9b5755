use Rattle.group_tree.proofs.Flat.{counts_as_flat}
use Rattle.hierarchy_laws.proofs.BelowLaws.{shown_is, refused_is}
use Rattle.hierarchy_laws.proofs.below.groups_below_are_flat.Goals as goal

pub returns : goal.returns
returns c = record { always = counts_as_flat; shown = shown_is; refused = refused_is }
