use Rattle.std.proofs.Common.{refl}
use Rattle.flat_model.specs.Command.{Descendants, Depth}
use Rattle.flat_model.proofs.Limits.{fork_within, fork_refused}
use Rattle.flat_model_laws.proofs.HierarchyLimits.{make_fits, make_refused}
use Rattle.flat_model_laws.proofs.states.limits_are_exact.Goals as goal

pub returns : goal.returns
returns c = record {
  fork = fork_within;
  fork_refused = fork_refused;
  make = make_fits;
  descendants = λ slots s p a. make_refused slots s p (Descendants a) refl;
  depth = λ slots s p a. make_refused slots s p (Depth a) refl;
}
