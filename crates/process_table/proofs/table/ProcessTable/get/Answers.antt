use Rattle.std.proofs.Common.{sym, ap, ◌∙◌}
use Rattle.process_table.specs.Rows.{process_of}
use Rattle.process_table.proofs.Tables.{get_is}
use Rattle.process_table.proofs.table.ProcessTable.get.Goals as goal

pub returns-in_err-cell : goal.returns-in_err-cell
returns-in_err-cell g c =
    rw c.from_residual.ensures (sym (get_is c.self.inside.pages c.self.inside.members c.self.invariant c.args.self.now c.self.view_is c.args.pid
    ∙ ap process_of (sym c.in_err-cell.ensures)))

pub returns : goal.returns
returns g c = sym (get_is c.self.inside.pages c.self.inside.members c.self.invariant c.args.self.now c.self.view_is c.args.pid
    ∙ ap process_of (sym c.in_ok-cell.ensures))
