use Rattle.std.proofs.Common.{◌≡◌, take}
use Rattle.pids_charge.specs.Lists.{rows_of}
use Rattle.pids_charge.proofs.lost.copy_all.Given as goal

abbrev pub invariant-loop-lost : goal.invariant-loop-lost
invariant-loop-lost g l = rows_of l.items.items ≡ rows_of (take l.lost-index l.list)
