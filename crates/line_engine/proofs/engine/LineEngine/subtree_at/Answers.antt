use Rattle.std.proofs.Common.{rules}
use Rattle.line_engine.proofs.GroupsBelow.{told_subtree}
use Rattle.line_engine.proofs.engine.LineEngine.subtree_at.Goals as goal

pub returns : goal.returns
returns c = told_subtree c.args.self.now.engine.machine.state c.args.path.now c.subtree_from.new.out c.subtree_from.result (search rules) c.subtree_from.ensures
