use Rattle.std.proofs.Common.{refl}
use Rattle.flat_model_laws.proofs.PeakLaws.{limited, removed, refused}
use Rattle.flat_model_laws.proofs.peaks.peaks_are_kept.Goals as goal

pub returns : goal.returns
returns c = record {
  exit = λ s pid. refl;
  kill = λ s g. refl;
  limit = limited;
  removed = removed;
  refused = refused;
}
