use Rattle.std.proofs.Common.{◌≡◌, take}
use Rattle.pids_charge.proofs.hints.KeptPaths.copy.Given as goal

abbrev pub invariant-loop-path : goal.invariant-loop-path
invariant-loop-path g l = l.paths.items ≡ take l.path-index l.path-items
