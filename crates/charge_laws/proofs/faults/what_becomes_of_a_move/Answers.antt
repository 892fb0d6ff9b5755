use Rattle.charge_laws.proofs.FaultLaws.{move_refused_is, moved_is, moved_or_refused}
use Rattle.charge_laws.proofs.faults.what_becomes_of_a_move.Goals as goal

pub returns : goal.returns
returns c = record { moved = moved_is; refused = move_refused_is; one = moved_or_refused }
