use Rattle.flat_model_laws.proofs.PeakLaws.{held, root_has_none}
use Rattle.flat_model_laws.proofs.peaks.peaks_hold_the_counts.Goals as goal

pub returns : goal.returns
returns c = record {
  reached = held;
  root = root_has_none;
}
