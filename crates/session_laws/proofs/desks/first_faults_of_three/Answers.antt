use Rattle.flat_model_laws.proofs.ExamplesAudits.{taken_out, changed, past_the_log}
use Rattle.session_laws.proofs.desks.first_faults_of_three.Goals as goal

pub returns-clause-missing : goal.returns-clause-missing
returns-clause-missing c = taken_out

pub returns-clause-differs : goal.returns-clause-differs
returns-clause-differs c = changed

pub returns-clause-stranger : goal.returns-clause-stranger
returns-clause-stranger c = past_the_log
