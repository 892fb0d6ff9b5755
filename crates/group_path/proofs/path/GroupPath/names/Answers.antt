use Rattle.std.proofs.Common.{◌∙◌}
use Rattle.group_path.proofs.PathTexts.{path_is, all_names}
use Rattle.group_path.proofs.path.GroupPath.names.Goals as goal

pub returns : goal.returns
returns g c = c.first_names.ensures ∙ all_names c.args.self.now (path_is c.self.inside.text c.args.self.now c.self.view_is c.self.invariant)
