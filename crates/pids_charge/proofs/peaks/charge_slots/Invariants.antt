use Rattle.std.proofs.Common.{◌≡◌, ℕ, ◌+◌, take, sum_by}
use Rattle.snzi_tokens.specs.Listed.{one_at}
use Rattle.pids_charge.proofs.peaks.charge_slots.Given as goal

abbrev pub invariant-loop-slot : goal.invariant-loop-slot
invariant-loop-slot g l = record {
  content : (s j : ℕ) → g.M.Meter.content l.meter s j ≡ g.M.Meter.content l.fn.meter s j + sum_by (λ slot. one_at slot l.leaf s j) (take l.slot-index l.slots);
  held : g.M.Meter.held l.meter ≡ g.M.Meter.held l.fn.meter + l.slot-index;
}
