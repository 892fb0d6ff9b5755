use Rattle.std.proofs.Common.{◌≡◌, ℕ, ◌+◌, ◌-◌, ◌≤◌, length, take}
use Rattle.pids_charge.specs.Lists.{row_at}
use Rattle.pids_charge.specs.Recount.{chain_at, charges_of}
use Rattle.pids_charge.proofs.walk.uncharge_up.Given as goal

abbrev pub invariant-loop-up : goal.invariant-loop-up
invariant-loop-up g l = record {
  bound : l._up ≤ 32;
  at : l.at ≡ row_at l.tree (take (length l.process.home - l._up) l.process.home);
  content : (s j : ℕ) → g.M.Meter.content l.meter s j + charges_of l.tree l.process s j
      ≡ g.M.Meter.content l.fn.meter s j + chain_at l.tree l.process.home (length l.process.home - l._up) l.process.leaf s j;
  held : g.M.Meter.held l.meter + length l.process.home ≡ g.M.Meter.held l.fn.meter + (length l.process.home - l._up);
}
