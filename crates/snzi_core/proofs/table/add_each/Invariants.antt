use Rattle.std.proofs.Common.{ℕ, ◌+◌}
use Rattle.snzi_core.proofs.TableRewrites.{IsRewritten}
use Rattle.snzi_core.proofs.table.add_each.Given as goal

abbrev pub invariant-loop-i : goal.invariant-loop-i
invariant-loop-i l = IsRewritten (λ (x : ℕ) (y : ℕ). x + y) l.initial.table l.part l.i l.table
