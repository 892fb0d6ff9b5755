use Rattle.session_laws.proofs.RowSteps.{as_many, never_all}
use Rattle.session_laws.proofs.rows.rows_of_all_sessions.Goals as goal

pub returns-clause-many : goal.returns-clause-many
returns-clause-many c = as_many

pub returns-clause-stopped : goal.returns-clause-stopped
returns-clause-stopped c = never_all
