use Rattle.group_path.proofs.PathTexts.{path_is}
use Rattle.group_path.proofs.path.GroupPath.known.Goals as goal

pub returns : goal.returns
returns g c = path_is c.self.inside.text c.args.self.now c.self.view_is c.self.invariant
