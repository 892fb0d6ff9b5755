use Rattle.std.proofs.Common.{◌≡◌, ℕ, ◌+◌, ◌<◌, ◌%◌, map, slice_index}
use Rattle.replay_main.proofs.logged.takes_turns.Given as goal

abbrev pub invariant-loop-i : goal.invariant-loop-i
invariant-loop-i l = (at : ℕ) → at < l.i → slice_index (map (λ e. e.session) l.entries) at ≡ (l.turn + at) % l.workers
