use Rattle.std.proofs.Common.{◌∷◌, [], refl, sym}
use Rattle.flat_model_laws.specs.AuditExamples.{made, shown}
use Rattle.session_laws.proofs.RowSteps.{first_runs, not_the_first, second_runs}
use Rattle.session_laws.proofs.rows.rows_of_two_sessions.Goals as goal

pub returns-clause-both : goal.returns-clause-both
returns-clause-both c = (_, second_runs, (_, first_runs, refl))

pub returns-clause-first : goal.returns-clause-first
returns-clause-first c = record {
  done = made.command ∷ [];
  refused = shown.command;
  rest = [];
  commands = refl;
  turns = (_, second_runs, refl);
}

pub returns-clause-other_session : goal.returns-clause-other_session
returns-clause-other_session c = λ turns. not_the_first turns.0 turns.1 (sym turns.2)
