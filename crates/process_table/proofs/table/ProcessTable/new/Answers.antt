use Rattle.process_table.proofs.Tables.{empty_tied, empty_table}
use Rattle.process_table.proofs.table.ProcessTable.new.Goals as goal

pub invariant_of-result : goal.invariant_of-result
invariant_of-result g c = empty_tied c.new-pages.result c.new-members.result c.new-pages.ensures c.new-members.ensures

pub returns : goal.returns
returns g c = empty_table c.new-pages.result c.new-pages.ensures
