use Rattle.flat_model_laws.proofs.ValueLaws.{read_kill_only}
use Rattle.flat_model_laws.proofs.texts.kill_is_one.Goals as goal

pub returns : goal.returns
returns c = read_kill_only
