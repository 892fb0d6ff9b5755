use Rattle.flat_model.proofs.Peaks.{length-peaks_upward, peak_upward}
use Rattle.flat_model_laws.proofs.PeakLaws.{set_as_they_are}
use Rattle.flat_model_laws.proofs.peaks.peaks_along_a_path.Goals as goal

pub returns : goal.returns
returns c = record {
  many = length-peaks_upward;
  each = peak_upward;
  set = set_as_they_are;
}
