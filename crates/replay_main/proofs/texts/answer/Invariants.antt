use Rattle.std.proofs.Common.{◌≡◌, ◌≤◌, ◌+◌, ◌++◌, map, drop, length}
use Rattle.replay_main.specs.Script.{answers_from, place_of}
use Rattle.replay_main.proofs.texts.answer.Given as goal

abbrev pub invariant-loop-place : goal.invariant-loop-place
invariant-loop-place l =
    (l.number ≡ l.before + l.place-index)
    × (l.at ≤ length l.log)
    × (l.bytes.items ++ answers_from (l.number + 1) (map place_of (drop l.place-index l.places)) (map (λ e. e.reply) (drop l.at l.log))
    ≡ answers_from (l.before + 1) (map place_of l.places) (map (λ e. e.reply) l.log))
