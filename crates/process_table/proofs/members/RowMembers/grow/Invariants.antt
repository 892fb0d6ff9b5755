use Rattle.std.proofs.Common.{◌≡◌, ℕ, ◌+◌, ◌-◌, [], get_or, vec_len}
use Rattle.process_table.proofs.members.RowMembers.grow.Given as goal

abbrev pub invariant-loop-self : goal.invariant-loop-self
invariant-loop-self g l = (s : ℕ) → get_or l.self-inside.lists.items s [] ≡ get_or l.initial.self-inside.lists.items s []

abbrev pub decreases-loop-self : goal.decreases-loop-self
decreases-loop-self g l = l.row + 1 - vec_len l.self-inside.lists
