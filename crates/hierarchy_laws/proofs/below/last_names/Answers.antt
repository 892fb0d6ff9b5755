use Rattle.std.proofs.Common.{refl}
use Rattle.hierarchy_laws.proofs.BelowLaws.{last_behind, joined_is}
use Rattle.hierarchy_laws.proofs.below.last_names.Goals as goal

pub returns : goal.returns
returns c = record { child = last_behind; joined = joined_is; root = refl; second = refl }
