use Rattle.std.proofs.Common.{◌≡◌, take}
use Rattle.std.specs.List.{sum_by}
use Rattle.replay_main.proofs.texts.count_all_refused.Given as goal

abbrev pub invariant-loop-part : goal.invariant-loop-part
invariant-loop-part l = l.refused ≡ sum_by (λ part. part.refused) (take l.part-index l.parts)
