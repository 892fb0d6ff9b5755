use Rattle.indicator_laws.proofs.EmptyRuns.{nothing}
use Rattle.indicator_laws.proofs.events.no_step_brings_nothing.Goals as goal

pub returns : goal.returns
returns c = nothing
