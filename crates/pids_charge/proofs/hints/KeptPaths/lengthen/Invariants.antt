use Rattle.std.proofs.Common.{◌≡◌, ℕ, ◌+◌, ◌-◌, None, get_or, length, vec_len}
use Rattle.pids_charge.specs.declared.hints.TheConstants.{HINTS}
use Rattle.pids_charge.proofs.hints.KeptPaths.lengthen.Given as goal

abbrev pub invariant-loop-self : goal.invariant-loop-self
invariant-loop-self g l = record {
  hints : length l.self-inside.hints.items ≡ HINTS;
  same : (k : ℕ) → get_or l.self-inside.paths.items k None ≡ get_or l.initial.self-inside.paths.items k None;
}

abbrev pub decreases-loop-self : goal.decreases-loop-self
decreases-loop-self g l = l.row + 1 - vec_len l.self-inside.paths
