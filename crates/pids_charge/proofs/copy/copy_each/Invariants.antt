use Rattle.std.proofs.Common.{◌≡◌, ℕ, ◌+◌, ◌++◌, ◌%◌, [], drop, length, map, sum_by}
use Rattle.std.specs.Map.{values_of}
use Rattle.pids_charge.specs.Lists.{inside, row_below}
use Rattle.pids_charge.specs.Recount.{charges_at}
use Rattle.pids_charge.proofs.copy.copy_each.Given as goal

abbrev pub invariant-loop-pid : goal.invariant-loop-pid
invariant-loop-pid g l = record {
  rows : l.table ++ map (row_below g.M.Meter.LEAVES) (drop l.pid-index (inside [] l.processes)) ≡ map (row_below g.M.Meter.LEAVES) (inside [] l.processes);
  content : (s j : ℕ) → g.M.Meter.content l.meter s j + sum_by (λ p. charges_at l.tree p.home (p.leaf % g.M.Meter.LEAVES) s j) (values_of (drop l.pid-index (inside [] l.processes)))
      ≡ g.M.Meter.content l.fn.meter s j + sum_by (λ p. charges_at l.tree p.home (p.leaf % g.M.Meter.LEAVES) s j) (values_of (inside [] l.processes));
  held : g.M.Meter.held l.meter + sum_by (λ p. length p.home) (values_of (drop l.pid-index (inside [] l.processes)))
      ≡ g.M.Meter.held l.fn.meter + sum_by (λ p. length p.home) (values_of (inside [] l.processes));
}
