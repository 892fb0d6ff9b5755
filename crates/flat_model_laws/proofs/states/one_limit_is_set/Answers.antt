use Rattle.flat_model_laws.proofs.LimitChanges.{set_is, others_are, kept_is, last_is, local_stays, total_stays, peak_stays}
use Rattle.flat_model_laws.proofs.states.one_limit_is_set.Goals as goal

pub returns : goal.returns
returns c = record {
  set = set_is;
  others = others_are;
  kept = kept_is;
  last = last_is;
  local = local_stays;
  total = total_stays;
  peak = peak_stays;
}
