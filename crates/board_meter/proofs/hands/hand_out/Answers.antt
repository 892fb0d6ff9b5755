use Rattle.std.proofs.Common.{arith}
use Rattle.snzi_tree.specs.Hands.{holds}
use Rattle.board_meter.proofs.Excess.{split_excess}
use Rattle.board_meter.proofs.hands.hand_out.Goals as goal

pub returns-clause-cut : goal.returns-clause-cut
returns-clause-cut g c =
    let e = c.split.ensures in
    record {
      given = e.given;
      left = e.kept;
      held_given = e.held.0;
      held_left = e.held.1;
      excess = split_excess g.row.W g.row.L (holds c.args.main.now) (holds c.split.new.main) (holds c.split.result)
          (λ s j. let a = e.given s j in let b = e.kept s j in omega (arith, a, b)) e.parts.1 e.parts.2;
      at_leaves = e.at_leaves.0;
      at_leaves_left = e.at_leaves.1;
      role = e.parts.4;
    }
