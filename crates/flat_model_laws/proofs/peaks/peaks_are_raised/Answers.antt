use Rattle.std.proofs.Common.{refl}
use Rattle.flat_model.specs.Step.{home_of}
use Rattle.flat_model_laws.proofs.PeakLaws.{raised, none_raised}
use Rattle.flat_model_laws.proofs.peaks.peaks_are_raised.Goals as goal

pub returns : goal.returns
returns c = record {
  fork = λ s from child. raised s child (home_of s from);
  fork_absent = λ s from child. none_raised s child (home_of s from);
  fork_home = λ s from child. refl;
  moved = λ s a pid. raised s pid a;
  moved_absent = λ s a pid. none_raised s pid a;
  moved_home = λ s a pid. refl;
}
