use Rattle.std.proofs.Common.{◌≡◌, ℕ, ◌+◌, take}
use Rattle.snzi_core.specs.Holding.{held}
use Rattle.snzi_tree.specs.Contents.{content_of}
use Rattle.snzi_tree.specs.Hands.{holds, SameHand}
use Rattle.snzi_tokens.specs.Listed.{listed_at}
use Rattle.board_meter.specs.Held.{InStep}
use Rattle.board_meter.proofs.part.uncharge_all.Given as goal

abbrev pub invariant-loop-token : goal.invariant-loop-token
invariant-loop-token g l = record {
  hand : SameHand l.fn.hand l.hand;
  content : (s j : ℕ) → content_of g.row.W g.row.L (holds l.hand) s j + listed_at (take l.token-index l.leaving) s j ≡ content_of g.row.W g.row.L (holds l.fn.hand) s j;
  held : held (holds l.hand) + l.token-index ≡ held (holds l.fn.hand);
  in_step : InStep g.row.W g.row.L (holds l.fn.hand) (holds l.hand);
}
