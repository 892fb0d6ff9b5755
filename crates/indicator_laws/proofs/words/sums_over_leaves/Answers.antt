use Rattle.std.proofs.Common.{refl}
use Rattle.indicator_laws.proofs.WordLaws.{both_sums, within_is, beyond_is}
use Rattle.indicator_laws.proofs.words.sums_over_leaves.Goals as goal

pub returns : goal.returns
returns c = record { three = refl; none = λ f. refl; both = both_sums; within = within_is; beyond = beyond_is }
