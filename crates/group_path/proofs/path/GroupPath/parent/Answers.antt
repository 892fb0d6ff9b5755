use Rattle.group_path.proofs.PrefixTexts.{some_parent}
use Rattle.group_path.proofs.path.GroupPath.parent.Goals as goal

pub returns-clause-group : goal.returns-clause-group
returns-clause-group g c = some_parent c.args.self.now _ c.depth-depth.result c.depth-depth.ensures c.if-depth-eq0.false c.in_ok-parent.ensures.group
