use Rattle.std.proofs.Common.{◌≡◌, ◌+◌, ◌-◌, IsSome, drop, length, take}
use Rattle.std.specs.FinMap as fin
use Rattle.flat_model.specs.Path.{Path, parent, upward}
use Rattle.flat_model.specs.Step.{first_refusal, limit_met}
use Rattle.pids_charge.specs.Events.{flat_of}
use Rattle.pids_charge.specs.Lists.{row_at}
use Rattle.pids_charge.proofs.hierarchy.first_met.Given as goal

abbrev pub invariant-loop-levels : goal.invariant-loop-levels
invariant-loop-levels g l = record {
  at : (q : Path) → IsSome (fin.get l.tree q) → l.above ≡ row_at l.tree q → l.at ≡ row_at l.tree (take (length q - l.levels) q);
  none : (p : Path) → length p ≡ l.n + 1 → IsSome (fin.get l.tree (parent p)) → l.above ≡ row_at l.tree (parent p)
      → first_refusal (limit_met (flat_of l.tree fin.empty) (parent p)) (drop l.levels (upward (parent p))) ≡ first_refusal (limit_met (flat_of l.tree fin.empty) (parent p)) (upward (parent p));
}
