use Rattle.std.proofs.Common.{refl}
use Rattle.flat_model_laws.proofs.EventLaws.{counted, none_counted, others_change_nothing}
use Rattle.flat_model_laws.proofs.states.events_are_exact.Goals as goal

pub returns : goal.returns
returns c = record {
  counted = counted;
  absent = none_counted;
  home = λ s a. refl;
  others = others_change_nothing;
}
