use Rattle.std.proofs.Common.{option_copied, take, sym, ap, ◌∙◌}
use Rattle.pids_charge.specs.GroupRows.{attrs_of}
use Rattle.pids_charge.proofs.InRows.{number_is, absent_is}
use Rattle.pids_charge.proofs.groups.GroupTable.find_row_at.Goals as goal

pub returns-in-Some : goal.returns-in-Some
returns-in-Some g c = number_is c.self.inside.tree (attrs_of c.self.inside.rows.items) c.self.invariant.has_rows c.args.self.now c.self.view_is (take c.args.n c.args.path.now) c.in-Some.found.now (sym c.find_at.ensures ∙ ap option_copied c.in-Some.is)

pub returns-in-None : goal.returns-in-None
returns-in-None g c = absent_is c.self.inside.tree (attrs_of c.self.inside.rows.items) c.self.invariant.has_rows c.args.self.now c.self.view_is (take c.args.n c.args.path.now) (sym c.find_at.ensures ∙ ap option_copied c.in-None.is)
