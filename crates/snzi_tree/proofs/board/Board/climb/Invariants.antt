use Rattle.std.proofs.Common.{◌*◌, ◌+◌, ◌≡◌, ◌≤◌}
use Rattle.snzi_tree.specs.Depths.{depth, OnPath}
use Rattle.snzi_tree.specs.Hands.{holds, joined_events, counted, SameHand}
use Rattle.snzi_tree.proofs.board.Board.climb.Given as goal

abbrev pub invariant-up : goal.invariant-up
invariant-up g l = record {
  steps : l.hand.steps + 2 * depth l.at ≤ l.fn.hand.steps + 2 * depth l.node;
  counts : counted l.fn.hand.steps 0 ≤ l.hand.steps;
  place : l.at ≤ l.node;
  hand : SameHand l.fn.hand l.hand;
  joined : joined_events l.hand ≡ joined_events l.fn.hand;
  path : OnPath l.node l.at;
  same : holds l.hand ≡ holds l.fn.hand;
}

abbrev pub decreases-up : goal.decreases-up
decreases-up g l = l.at
