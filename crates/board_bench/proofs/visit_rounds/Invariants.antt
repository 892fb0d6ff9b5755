use Rattle.std.proofs.Common.{◌≡◌}
use Rattle.snzi_core.specs.Holding.{held}
use Rattle.snzi_tree.specs.Hands.{IsHandOf, holds}
use Rattle.board_bench.proofs.visit_rounds.Given as goal

abbrev pub invariant-loop : goal.invariant-loop
invariant-loop l = record {
  here : IsHandOf l.board l.hand;
  empty : held (holds l.hand) ≡ 0;
}
