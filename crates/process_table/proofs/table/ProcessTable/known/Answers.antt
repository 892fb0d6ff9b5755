use Rattle.process_table.proofs.Tables.{table_ascends}
use Rattle.process_table.proofs.table.ProcessTable.known.Goals as goal

pub returns : goal.returns
returns g c = rw (← c.self.view_is) (table_ascends c.self.inside.pages)
