use Rattle.std.proofs.Common.{◌≡◌, ℕ, ◌<◌, ◌^◌, length, get_or}
use Rattle.pids_charge.proofs.peaks.narrow.Given as goal

abbrev pub invariant-loop-i : goal.invariant-loop-i
invariant-loop-i l = record {
  many : length l.table ≡ length l.peaks;
  fit : (k : ℕ) → k < l.i → get_or l.peaks k 0 < 2 ^ 32;
  same : (k : ℕ) → k < l.i → get_or l.table k 0 ≡ get_or l.peaks k 0;
}
