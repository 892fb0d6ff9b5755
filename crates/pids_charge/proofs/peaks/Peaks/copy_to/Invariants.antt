use Rattle.std.proofs.Common.{◌≡◌, ℕ, ◌<◌, length, get_or}
use Rattle.pids_charge.proofs.peaks.Peaks.copy_to.Given as goal

abbrev pub invariant-loop-i : goal.invariant-loop-i
invariant-loop-i g l = record {
  many : length l.table ≡ length l.self;
  same : (k : ℕ) → k < l.i → get_or l.table k 0 ≡ get_or l.self k 0;
}
