use Rattle.std.proofs.Common.{◌≡◌, ℕ, ◌+◌, ◌-◌, [], get_or, vec_len}
use Rattle.process_table.proofs.pages.Pages.lengthen.Given as goal

abbrev pub invariant-loop-self : goal.invariant-loop-self
invariant-loop-self g l = (p : ℕ) → get_or l.self-inside.pages.items p [] ≡ get_or l.initial.self-inside.pages.items p []

abbrev pub decreases-loop-self : goal.decreases-loop-self
decreases-loop-self g l = l.page + 1 - vec_len l.self-inside.pages
