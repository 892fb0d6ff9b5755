-- What contracts see of an engine: its machine, and how many recorded commands were forgotten before the past of that machine begins.
use Rattle.std.specs.Prelude.{ℕ}
use Rattle.flat_model.specs.Machine.{Machine}

pub record Timeline : Type 0 where
  pub machine : Machine
  -- 0 if the engine has never forgotten a command; the number stops at the greatest u64
  pub forgotten : ℕ

-- the past begins at the start: nothing was forgotten
abbrev pub from_start : Machine → Timeline
from_start m = record { machine = m; forgotten = 0 }

-- the machine becomes m, and nothing is forgotten
abbrev pub becomes : Timeline → Machine → Timeline
becomes t m = record { machine = m; forgotten = t.forgotten }
