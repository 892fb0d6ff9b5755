use Rattle.std.proofs.Common.{◌≡◌, ℕ, None, get_or, vec_len}
use Rattle.process_table.proofs.page.Page.fill.Given as goal

abbrev pub invariant-loop-at : goal.invariant-loop-at
invariant-loop-at g l = (vec_len l.self-inside.cells ≡ l._at) × ((k : ℕ) → get_or l.self-inside.cells.items k None ≡ get_or l.initial.self-inside.cells.items k None)
