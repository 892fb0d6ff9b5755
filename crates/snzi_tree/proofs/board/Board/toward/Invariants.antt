use Rattle.std.proofs.Common.{◌≢◌, ◌≤◌}
use Rattle.snzi_tree.specs.Depths.{OnPath}
use Rattle.snzi_tree.proofs.board.Board.toward.Given as goal

abbrev pub invariant-up : goal.invariant-up
invariant-up g l = record {
  place : l.at ≤ l.node;
  low : OnPath l.node l.at;
  high : OnPath l.at l.top;
  apart : l.at ≢ l.top;
}

abbrev pub decreases-up : goal.decreases-up
decreases-up g l = l.at
