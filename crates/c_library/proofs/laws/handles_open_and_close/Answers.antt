use Rattle.c_library.proofs.StatusLaws.{opened_is, unopened_is, opens_by, closed_is, closed_twice}
use Rattle.c_library.proofs.laws.handles_open_and_close.Goals as goal

pub returns : goal.returns
returns c = record {
  opened = opened_is;
  memory = unopened_is;
  others = opens_by;
  again = λ e status new h. h;
  closed = closed_is;
  held = λ e status new h. h.0;
  twice = closed_twice;
}
