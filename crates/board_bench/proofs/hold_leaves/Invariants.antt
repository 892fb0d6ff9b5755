use Rattle.std.proofs.Common.{◌≡◌}
use Rattle.snzi_core.specs.Holding.{held, out}
use Rattle.snzi_tree.specs.Hands.{IsHandOf, holds, IsMain}
use Rattle.board_bench.proofs.hold_leaves.Given as goal

abbrev pub invariant-loop-leaf : goal.invariant-loop-leaf
invariant-loop-leaf l = record {
  here : IsHandOf l.board l.main;
  main : IsMain l.main;
  out : out (holds l.main).role ≡ 0;
  held : held (holds l.main) ≡ l.leaf;
}
