use Rattle.std.proofs.Common.{subst}
use Rattle.group_tree.specs.Groups.{Groups, IsClosed}
use Rattle.group_tree.proofs.GroupPrefixes.{prefix_there}
use Rattle.group_tree.proofs.Flat.{counts_as_flat}
use Rattle.pids_charge.specs.GroupRows.{attrs_of}
use Rattle.pids_charge.proofs.InRows.{closed_rows, rows_apart}
use Rattle.pids_charge.proofs.groups.GroupTable.known.Goals as goal

pub returns-clause-closed : goal.returns-clause-closed
returns-clause-closed g c = subst (λ (m : Groups). IsClosed m) c.self.view_is (closed_rows c.self.inside.tree (attrs_of c.self.inside.rows.items) c.self.invariant.has_rows.closed)

pub returns-clause-prefixes : goal.returns-clause-prefixes
returns-clause-prefixes g c = λ p q.
    prefix_there c.args.self.now (subst (λ (m : Groups). IsClosed m) c.self.view_is (closed_rows c.self.inside.tree (attrs_of c.self.inside.rows.items) c.self.invariant.has_rows.closed)) p q

pub returns-clause-flat : goal.returns-clause-flat
returns-clause-flat g c = counts_as_flat c.args.self.now

pub returns-clause-apart : goal.returns-clause-apart
returns-clause-apart g c = rows_apart c.self.inside.tree (attrs_of c.self.inside.rows.items) c.self.invariant.has_rows c.args.self.now c.self.view_is
