use Rattle.std.proofs.Common.{◌≡◌, ℕ, count_by, eqb}
use Rattle.process_table.specs.Chosen.{chosen_below}
use Rattle.process_table.specs.Rows.{process_at}
use Rattle.process_table.proofs.gather.gather.Given as goal

abbrev pub invariant-loop-row : goal.invariant-loop-row
invariant-loop-row g l = (q : ℕ) → count_by (eqb q) l.pids.items ≡ chosen_below l.row l.path (process_at l.pages q)
