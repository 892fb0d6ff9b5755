use Rattle.charge_laws.proofs.TableLaws.{start_has_room, full_is, full_locally_is, next_is, refused_is, none_is}
use Rattle.charge_laws.proofs.tables.totals_of_refused_forks.Goals as goal

pub returns : goal.returns
returns c = record {
  start = start_has_room;
  full = full_is;
  full_locally = full_locally_is;
  next = next_is;
  refused = refused_is;
  none = none_is;
}
