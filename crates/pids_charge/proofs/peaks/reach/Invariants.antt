use Rattle.std.proofs.Common.{◌≡◌, ℕ, ◌<◌, length, get_or}
use Rattle.std.specs.Prelude.{max}
use Rattle.snzi_tokens.specs.Listed.{over_leaves}
use Rattle.pids_charge.proofs.peaks.reach.Given as goal

abbrev pub invariant-loop-i : goal.invariant-loop-i
invariant-loop-i g l = record {
  many : length l.reached ≡ length l.slots;
  each : (k : ℕ) → k < l.i → get_or l.reached k 0 ≡ max (get_or l.peaks k 0) (over_leaves g.M.Meter.LEAVES (g.M.Meter.content l.fn.meter (get_or l.slots k 0)));
  same : g.M.Meter.content l.meter ≡ g.M.Meter.content l.fn.meter;
  held : g.M.Meter.held l.meter ≡ g.M.Meter.held l.fn.meter;
}
