use Rattle.session_laws.proofs.LegalLogs.{memory_is, missing_is, stranger_is_none, mismatch_is_none, illegal_is_none}
use Rattle.session_laws.proofs.desks.faults_of_legal_logs.Goals as goal

pub returns : goal.returns
returns c = record {
  memory = memory_is;
  missing = missing_is;
  no_stranger = stranger_is_none;
  no_mismatch = mismatch_is_none;
  illegal = illegal_is_none;
}
