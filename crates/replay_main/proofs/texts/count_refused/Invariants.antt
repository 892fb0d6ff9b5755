use Rattle.std.proofs.Common.{◌≡◌, ◌≤◌, take}
use Rattle.std.specs.List.{count_by}
use Rattle.flat_model.specs.Replies.{is_refused}
use Rattle.replay_main.proofs.texts.count_refused.Given as goal

abbrev pub invariant-loop-entry : goal.invariant-loop-entry
invariant-loop-entry l = (l.refused ≤ l.entry-index) × (l.refused ≡ count_by (λ e. is_refused e.reply) (take l.entry-index l.log))
