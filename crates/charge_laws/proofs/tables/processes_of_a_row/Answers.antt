use Rattle.std.proofs.Common.{refl}
use Rattle.charge_laws.proofs.TableLaws.{one_home, any_home, member_is, member_once, all_members}
use Rattle.charge_laws.proofs.tables.processes_of_a_row.Goals as goal

pub returns : goal.returns
returns c = record {
  same = one_home;
  others = any_home;
  member = member_is;
  once = member_once;
  nobody = λ s. refl;
  root = all_members;
}
