use Rattle.std.proofs.Common.{◌≡◌, ℕ, ◌<◌, None, get_or}
use Rattle.process_table.proofs.page.are_all_empty.Given as goal

abbrev pub invariant-loop-cell : goal.invariant-loop-cell
invariant-loop-cell g l = (k : ℕ) → k < l.cell-index → get_or l.cells k None ≡ None
