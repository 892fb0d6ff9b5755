use Rattle.snzi_tree.specs.Hands.{holds}
use Rattle.board_meter.proofs.Excess.{excess_both}
use Rattle.board_meter.proofs.hands.join_back.Goals as goal

pub returns-clause-together : goal.returns-clause-together
returns-clause-together g c =
    let e = c.join.ensures in
    record {
      content = e.content;
      held = e.held;
      excess = excess_both g.row.W g.row.L (holds c.join.new.main) (holds c.args.main.now) (holds c.args.helper) e.content e.total;
      at_leaves = e.at_leaves;
      role = e.unites.3;
    }
