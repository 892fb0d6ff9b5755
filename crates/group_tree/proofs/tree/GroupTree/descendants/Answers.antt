use Rattle.group_tree.proofs.Descendants.{counted_at, exact_at}
use Rattle.group_tree.proofs.tree.GroupTree.descendants.Goals as goal

pub returns-clause-counted : goal.returns-clause-counted
returns-clause-counted g c = counted_at _ c.args.self.now _ c.args.path.now c.descendants.result c.self.view_is c.names.ensures c.descendants.ensures

pub returns-clause-exact : goal.returns-clause-exact
returns-clause-exact g c = exact_at _ c.args.self.now _ c.args.path.now c.descendants.result c.self.view_is c.names.ensures c.descendants.ensures
