use Rattle.flat_model_laws.proofs.ValueLaws.{read_limit-limit_text, read_limit_only, read_limit_text}
use Rattle.flat_model_laws.proofs.texts.limit_is_read_back.Goals as goal

pub returns : goal.returns
returns c = record { read = read_limit-limit_text; only = read_limit_only; text = read_limit_text }
