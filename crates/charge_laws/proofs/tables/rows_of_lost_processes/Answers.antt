use Rattle.std.proofs.Common.{refl}
use Rattle.charge_laws.proofs.TableLaws.{rows_joined, as_many}
use Rattle.charge_laws.proofs.tables.rows_of_lost_processes.Goals as goal

pub returns : goal.returns
returns c = record { two = refl; joined = rows_joined; many = as_many }
