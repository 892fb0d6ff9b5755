use Rattle.std.proofs.Common.{◌≡◌, ◌-◌, ◌≤◌, length, take}
use Rattle.std.specs.FinMap as fin
use Rattle.pids_charge.specs.Events.{full_by}
use Rattle.pids_charge.specs.Lists.{row_at}
use Rattle.pids_charge.proofs.FullGroupWalk.{longest}
use Rattle.pids_charge.proofs.notes.nearest_full.Given as goal

abbrev pub invariant-loop-up : goal.invariant-loop-up
invariant-loop-up g l = record {
  bound : l.up ≤ 32;
  at : l.at ≡ row_at l.tree (take (length l.path - l.up) l.path);
  answer : longest (λ a. full_by g.M.Meter.LEAVES (g.M.Meter.content l.fn.meter) (fin.get l.tree a)) l.path (length l.path)
      ≡ longest (λ a. full_by g.M.Meter.LEAVES (g.M.Meter.content l.fn.meter) (fin.get l.tree a)) l.path (length l.path - l.up);
  same : g.M.Meter.content l.meter ≡ g.M.Meter.content l.fn.meter;
  held : g.M.Meter.held l.meter ≡ g.M.Meter.held l.fn.meter;
}
