use Rattle.flat_model.proofs.WellFormedSteps.{kept}
use Rattle.flat_model.proofs.Limits.{kept_refused}
use Rattle.flat_model.proofs.Reachable.{start_well_formed}
use Rattle.flat_model_laws.proofs.states.well_formed_kept.Goals as goal

pub returns : goal.returns
returns c = record { start = start_well_formed; accepted = kept; refused = kept_refused }
