use Rattle.flat_model_laws.proofs.CommandTextLawsTrace.{read_trace-written}
use Rattle.flat_model_laws.proofs.texts.trace_is_read_back.Goals as goal

pub returns : goal.returns
returns c = read_trace-written
