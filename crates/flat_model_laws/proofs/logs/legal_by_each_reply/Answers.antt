use Rattle.flat_model_laws.proofs.LogLaws.{legal-push}
use Rattle.flat_model_laws.proofs.logs.legal_by_each_reply.Goals as goal

pub returns-clause-longer : goal.returns-clause-longer
returns-clause-longer c = legal-push
