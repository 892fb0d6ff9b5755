use Rattle.std.proofs.Common.{◌≡◌, vec_len}
use Rattle.replay_main.proofs.turns.open_desk.Given as goal

abbrev pub invariant-loop-number : goal.invariant-loop-number
invariant-loop-number l = (vec_len l.sessions ≡ l.number) × (l.desk-inside.sessions ≡ l.workers)
