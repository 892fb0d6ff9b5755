use Rattle.std.proofs.Common.{◌≡◌, take}
use Rattle.pids_charge.proofs.readers.ascending.Given as goal

abbrev pub invariant-loop-number : goal.invariant-loop-number
invariant-loop-number g l = l.pids.items ≡ take l.number-index l.numbers
