use Rattle.indicator_laws.proofs.HandShares.{nothing_at, nothing_to}
use Rattle.snzi_tree.proofs.Leaves.{in_positive, positive_in}
use Rattle.indicator_laws.proofs.boards.contents_are_by_slot.Goals as goal

pub returns-clause-nothing : goal.returns-clause-nothing
returns-clause-nothing c = λ w l s j. (nothing_at w l s j, nothing_to w l s l)

pub returns-clause-counted : goal.returns-clause-counted
returns-clause-counted c = λ w l slot h shape tidy. (in_positive w l shape h slot tidy, positive_in w l shape h slot)
