use Rattle.std.proofs.Common.{ℕ, List, sym, ap, ◌∙◌}
use Rattle.std.specs.BTreeMap.{insert_entry}
use Rattle.std.specs.Ordering.{nat_cmp}
use Rattle.process_table.specs.declared.process.Process.{Process}
use Rattle.process_table.specs.Rows.{process_of}
use Rattle.process_table.proofs.Outcomes.{on_ok, if_ok}
use Rattle.process_table.proofs.Tables.{get_is, table_put, table_alike, table_ascends}
use Rattle.process_table.proofs.table.ProcessTable.insert.Goals as goal

pub returns-in_err-grow-clause-ordered : goal.returns-in_err-grow-clause-ordered
returns-in_err-grow-clause-ordered g c = table_ascends c.grow.new.self

pub returns-in_err-grow-2-clause-ordered : goal.returns-in_err-grow-2-clause-ordered
returns-in_err-grow-2-clause-ordered g c = table_ascends c.grow.new.self

pub returns-clause-old : goal.returns-clause-old
returns-clause-old g c =
    if_ok c.put_in.result (λ o h. h ∙ ap process_of (c.grow.ensures.same c.args.pid)
    ∙ sym (get_is c.self.inside.pages c.self.inside.members c.self.invariant c.args.self.now c.self.view_is c.args.pid))
    c.put_in.ensures.before

pub returns-clause-entries : goal.returns-clause-entries
returns-clause-entries g c = on_ok c.put_in.result (λ each.
    table_put c.grow.new.self c.put_in.new.pages c.args.pid c.args.process c.ranges.pid.fits each
    ∙ ap (λ (es : List (ℕ × Process g.row.A.Denot)). insert_entry nat_cmp es c.args.pid c.args.process)
    (table_alike c.self.inside.pages c.grow.new.self (λ q. ap process_of (c.grow.ensures.same q))
    ∙ c.self.view_is)) c.put_in.ensures.after

pub returns-clause-ordered : goal.returns-clause-ordered
returns-clause-ordered g c = table_ascends c.put_in.new.pages
