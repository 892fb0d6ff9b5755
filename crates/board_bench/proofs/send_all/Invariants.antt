use Rattle.std.proofs.Common.{◌≡◌, length}
use Rattle.snzi_core.specs.Holding.{out}
use Rattle.snzi_tree.specs.Hands.{IsHandOf, holds, IsMain}
use Rattle.board_bench.proofs.send_all.Given as goal

abbrev pub invariant-loop-number : goal.invariant-loop-number
invariant-loop-number l = record {
  here : IsHandOf l.board l.main;
  main : IsMain l.main;
  out : out (holds l.main).role ≡ l.number;
  len : length l.visitors.items ≡ l.number;
}
