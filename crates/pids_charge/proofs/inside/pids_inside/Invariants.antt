use Rattle.std.proofs.Common.{◌≡◌, ℕ, IsSome, count_by, eqb}
use Rattle.std.specs.BTreeMap.{is_at}
use Rattle.std.specs.FinMap as fin
use Rattle.std.specs.Map.{lookup}
use Rattle.std.specs.Ordering.{nat_cmp}
use Rattle.flat_model.specs.Path.{Path}
use Rattle.process_table.specs.Chosen.{chosen_below}
use Rattle.pids_charge.specs.Lists.{row_at}
use Rattle.pids_charge.proofs.inside.pids_inside.Given as goal

abbrev pub invariant-loop-at : goal.invariant-loop-at
invariant-loop-at g l = (p : Path) → IsSome (fin.get l.tree p) → l.top ≡ row_at l.tree p → (q : ℕ)
    → count_by (eqb q) l.pids.items ≡ chosen_below l.at p (lookup (is_at (nat_cmp q)) l.processes)
