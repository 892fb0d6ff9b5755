use Rattle.std.proofs.Common.{◌≡◌, ◌*◌, ◌+◌, ◌-◌, ◌≤◌}
use Rattle.snzi_core.specs.Changes.{Gains}
use Rattle.snzi_core.specs.Shape.{node_word}
use Rattle.snzi_tree.specs.Depths.{depth, OnPath}
use Rattle.snzi_tree.specs.Hands.{holds, joined_events, counted, SameHand}
use Rattle.snzi_tree.proofs.NodePaths.{down_steps}
use Rattle.snzi_tree.proofs.board.Board.arrive_at.Given as goal

abbrev pub invariant-down : goal.invariant-down
invariant-down g l = record {
  steps : l.hand.steps ≤ l.fn.hand.steps + (2 * depth l.node + 1 + down_steps (depth l.at));
  counts : counted l.fn.hand.steps 1 ≤ l.hand.steps;
  place : l.at ≤ l.node;
  path : OnPath l.node l.at;
  hand : SameHand l.fn.hand l.hand;
  joined : joined_events l.hand ≡ joined_events l.fn.hand;
  token : Gains (node_word g.row.W g.row.L l.slot l.at) (holds l.fn.hand) (holds l.hand);
}

abbrev pub decreases-down : goal.decreases-down
decreases-down g l = l.node - l.at
