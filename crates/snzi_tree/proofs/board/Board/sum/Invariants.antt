use Rattle.std.proofs.Common.{◌≡◌, ◌%◌, ◌^◌}
use Rattle.snzi_tree.specs.Contents.{amounts_to}
use Rattle.snzi_tree.specs.Hands.{holds, joined_events, counted, SameHand, IsAlone}
use Rattle.snzi_tree.proofs.board.Board.sum.Given as goal

abbrev pub invariant-loop-k : goal.invariant-loop-k
invariant-loop-k g l = record {
  steps : l.hand.steps ≡ counted l.fn.hand.steps l.k;
  hand : SameHand l.fn.hand l.hand;
  joined : joined_events l.hand ≡ joined_events l.fn.hand;
  same : holds l.hand ≡ holds l.fn.hand;
  sum : IsAlone l.fn.hand → l.sum ≡ amounts_to g.row.W g.row.L l.slot (holds l.fn.hand) l.k % 2 ^ 64;
}
