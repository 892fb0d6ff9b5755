use Rattle.std.proofs.Common.{◌≡◌, ◌≤◌, ◌+◌, ◌++◌, map, drop, length}
use Rattle.undo_journal.specs.CommandMeaning.{reply_of}
use Rattle.replay_main.specs.Rehearsed.{answers_at_hand}
use Rattle.replay_main.specs.Script.{place_of}
use Rattle.replay_main.proofs.rehearsal.put_answers.Given as goal

abbrev pub invariant-loop-place : goal.invariant-loop-place
invariant-loop-place l =
    (l.number ≡ l.place-index)
    × (l.at ≤ length l.replies)
    × (l.bytes.items ++ answers_at_hand (l.number + 1) (map place_of (drop l.place-index l.places)) (map reply_of (drop l.at l.replies))
    ≡ answers_at_hand 1 (map place_of l.places) (map reply_of l.replies))
