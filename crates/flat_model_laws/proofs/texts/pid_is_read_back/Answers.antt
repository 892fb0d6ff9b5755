use Rattle.flat_model_laws.proofs.ValueLaws.{read_pid-decimal, read_pid_only}
use Rattle.flat_model_laws.proofs.texts.pid_is_read_back.Goals as goal

pub returns : goal.returns
returns c = record { read = read_pid-decimal; only = read_pid_only }
