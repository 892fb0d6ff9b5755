use Rattle.flat_model_laws.proofs.LimitsExact.{within_is, accepted_is, limiting_is, one_limiting}
use Rattle.flat_model_laws.proofs.refusals.pids_limits_are_exact.Goals as goal

pub returns : goal.returns
returns c = record {
  within = within_is;
  accepted = accepted_is;
  limiting = limiting_is;
  one = one_limiting;
}
