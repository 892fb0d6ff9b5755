use Rattle.std.proofs.Common.{refl}
use Rattle.charge_laws.proofs.TableLaws.{empty_is, charged_is, counted_is}
use Rattle.charge_laws.proofs.tables.charges_of_a_table.Goals as goal

pub returns : goal.returns
returns c = record {
  first = (refl, refl);
  second = (refl, refl);
  outside = (refl, refl);
  held = refl;
  empty = empty_is;
  nothing = record { nothing = λ s j. refl; none = refl };
  charged = charged_is;
  counted = counted_is;
}
