use Rattle.std.proofs.Common.{◌≡◌, ◌+◌, ◌<◌, ◌≤◌}
use Rattle.snzi_core.specs.declared.holding.Holding.{Holding}
use Rattle.snzi_core.specs.Holding.{tokens_at}
use Rattle.snzi_core.specs.Changes.{Loses}
use Rattle.snzi_core.specs.Shape.{node_word}
use Rattle.snzi_tree.specs.Depths.{depth}
use Rattle.snzi_tree.specs.Hands.{holds, joined_events, counted, SameHand}
use Rattle.snzi_tree.proofs.board.Board.depart_at.Given as goal

abbrev pub invariant-up : goal.invariant-up
invariant-up g l = record {
  steps : l.hand.steps + depth l.at ≤ l.fn.hand.steps + depth l.node;
  counts : counted l.fn.hand.steps 0 ≤ l.hand.steps;
  place : l.at < g.row.W;
  hand : SameHand l.fn.hand l.hand;
  joined : joined_events l.hand ≡ joined_events l.fn.hand;
  token : 0 < tokens_at (node_word g.row.W g.row.L l.slot l.at) (holds l.hand);
  rest : (k : Holding) → Loses (node_word g.row.W g.row.L l.slot l.at) (holds l.hand) k → Loses (node_word g.row.W g.row.L l.slot l.node) (holds l.fn.hand) k;
}

abbrev pub decreases-up : goal.decreases-up
decreases-up g l = l.at
