use Rattle.std.proofs.Common.{◌≡◌, ◌≤◌, take}
use Rattle.std.specs.List.{count_by}
use Rattle.undo_journal.specs.CommandMeaning.{reply_of}
use Rattle.replay_main.specs.Rehearsed.{is_refusal}
use Rattle.replay_main.proofs.rehearsal.count_refusals.Given as goal

abbrev pub invariant-loop-reply : goal.invariant-loop-reply
invariant-loop-reply l = (l.refusals ≤ l.reply-index) × (l.refusals ≡ count_by (λ r. is_refusal (reply_of r)) (take l.reply-index l.replies))
