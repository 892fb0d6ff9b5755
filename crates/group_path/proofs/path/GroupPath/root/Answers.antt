use Rattle.std.proofs.Common.{ap}
use Rattle.flat_model.specs.PathText.{names_in}
use Rattle.group_path.proofs.PathTexts.{root_faultless}
use Rattle.group_path.proofs.path.GroupPath.root.Goals as goal

pub invariant_of-result : goal.invariant_of-result
invariant_of-result g c = root_faultless c.in_ok-text.text c.in_ok-text.ensures.same

pub returns : goal.returns
returns g c = ap names_in c.in_ok-text.ensures.same
