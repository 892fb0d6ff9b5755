use Rattle.std.proofs.Common.{subst}
use Rattle.group_tree.specs.Groups.{Groups, IsClosed}
use Rattle.group_tree.proofs.GroupPrefixes.{prefix_there}
use Rattle.group_tree.proofs.Flat.{counts_as_flat}
use Rattle.group_tree.proofs.tree.GroupTree.known.Goals as goal

pub returns-clause-flat : goal.returns-clause-flat
returns-clause-flat g c = counts_as_flat c.args.self.now

pub returns-clause-prefixes : goal.returns-clause-prefixes
returns-clause-prefixes g c = λ p q. prefix_there c.args.self.now (subst (λ (m : Groups). IsClosed m) c.self.view_is c.self.invariant) p q
