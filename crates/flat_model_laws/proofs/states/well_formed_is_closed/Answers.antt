use Rattle.flat_model.proofs.GroupCounts.{groups_above}
use Rattle.flat_model_laws.proofs.ClosedStates.{home_is_shown, slots_are_taken, own_in_all, peak_holds, root_without_peak}
use Rattle.flat_model_laws.proofs.states.well_formed_is_closed.Goals as goal

pub returns : goal.returns
returns c = record {
  groups = groups_above;
  homes = home_is_shown;
  slots = slots_are_taken;
  totals = own_in_all;
  peaks = peak_holds;
  root_peak = root_without_peak;
}
