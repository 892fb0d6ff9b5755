use Rattle.std.proofs.Common.{sym, ap, ◌∙◌}
use Rattle.std.specs.BTreeMap.{is_at}
use Rattle.std.specs.Map.{remove_entry}
use Rattle.std.specs.Ordering.{nat_cmp}
use Rattle.process_table.proofs.Tables.{get_is, table_taken, table_ascends}
use Rattle.process_table.proofs.table.ProcessTable.take.Goals as goal

pub returns-clause-value : goal.returns-clause-value
returns-clause-value g c = c.take_out.ensures.before ∙ sym (get_is c.self.inside.pages c.self.inside.members c.self.invariant c.args.self.now c.self.view_is c.args.pid)

pub returns-clause-entries : goal.returns-clause-entries
returns-clause-entries g c = table_taken c.self.inside.pages c.take_out.new.pages c.args.pid c.take_out.ensures.after ∙ ap (remove_entry (is_at (nat_cmp c.args.pid))) c.self.view_is

pub returns-clause-ordered : goal.returns-clause-ordered
returns-clause-ordered g c = table_ascends c.take_out.new.pages
