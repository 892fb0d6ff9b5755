use Rattle.flat_model_laws.proofs.LogLaws.{log_end-push}
use Rattle.flat_model_laws.proofs.logs.log_ends_by_steps.Goals as goal

pub returns-clause-longer : goal.returns-clause-longer
returns-clause-longer c = log_end-push
