use Rattle.std.proofs.Common.{refl}
use Rattle.charge_laws.proofs.FaultLaws.{one_fault, one_refusal, unchanged_is, home_stays}
use Rattle.charge_laws.proofs.faults.faults_are_told_apart.Goals as goal

pub returns : goal.returns
returns c = record {
  one = one_refusal;
  faults = one_fault;
  counted = λ n. (refl, refl);
  unchanged = unchanged_is;
  home = home_stays;
}
