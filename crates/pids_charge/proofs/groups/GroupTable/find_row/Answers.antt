use Rattle.std.proofs.Common.{option_copied, sym, ap, ◌∙◌}
use Rattle.std.specs.FinMap as fin
use Rattle.pids_charge.specs.GroupRows.{attrs_of}
use Rattle.pids_charge.proofs.InRows.{number_is, absent_is}
use Rattle.pids_charge.proofs.PathRows.{numbered}
use Rattle.pids_charge.proofs.groups.GroupTable.find_row.Goals as goal

pub returns-in-Some : goal.returns-in-Some
returns-in-Some g c =
    let found = numbered (fin.get c.self.inside.tree c.args.path.now) c.in-Some.row (c.self.invariant.keeps_paths c.in-Some.row c.args.path.now c.in-Some.ensures) in
    let there = number_is c.self.inside.tree (attrs_of c.self.inside.rows.items) c.self.invariant.has_rows c.args.self.now c.self.view_is c.args.path.now found.0 found.1 in
    (there.0, sym found.2 ∙ there.1)

pub returns-in-Some-find : goal.returns-in-Some-find
returns-in-Some-find g c = number_is c.self.inside.tree (attrs_of c.self.inside.rows.items) c.self.invariant.has_rows c.args.self.now c.self.view_is c.args.path.now c.in-Some-find.found.now (sym c.find.ensures ∙ ap option_copied c.in-Some-find.is)

pub returns-in-None : goal.returns-in-None
returns-in-None g c = absent_is c.self.inside.tree (attrs_of c.self.inside.rows.items) c.self.invariant.has_rows c.args.self.now c.self.view_is c.args.path.now (sym c.find.ensures ∙ ap option_copied c.in-None.is)
