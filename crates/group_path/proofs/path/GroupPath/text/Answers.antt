use Rattle.std.proofs.Common.{◌∙◌}
use Rattle.group_path.proofs.PathTexts.{text_is}
use Rattle.group_path.proofs.path.GroupPath.text.Goals as goal

pub returns : goal.returns
returns g c = c.as_slice.ensures ∙ text_is c.self.inside.text c.args.self.now c.self.view_is c.self.invariant
