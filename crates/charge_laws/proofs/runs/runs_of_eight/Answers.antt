use Rattle.std.proofs.Common.{refl}
use Rattle.charge_laws.proofs.runs.runs_of_eight.Goals as goal

pub returns : goal.returns
returns c = record {
  last = refl;
  second = refl;
  first = refl;
  one = (refl, refl);
  nine = refl;
}
