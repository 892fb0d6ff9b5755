use Rattle.std.proofs.Common.{◌∙◌}
use Rattle.snzi_tree.specs.Hands.{holds}
use Rattle.board_meter.proofs.Excess.{charged, same_content}
use Rattle.board_meter.proofs.charges.charge.Goals as goal

pub returns-clause-content : goal.returns-clause-content
returns-clause-content g c s j =
    same_content g.row.W g.row.L (holds c.arrive.new.hand) (holds c.add.new.hand) c.add.ensures.amount.2 s j
    ∙ c.arrive.ensures.content s j

pub returns-clause-in_step : goal.returns-clause-in_step
returns-clause-in_step g c =
    charged g.row.W g.row.L c.args.board.now.shape.4 (holds c.args.hand.now) (holds c.arrive.new.hand) (holds c.add.new.hand) c.args.token
    c.args.token.leaf c.requires.place.1 c.arrive.ensures.at_leaves c.arrive.ensures.token c.add.ensures.amount c.add.ensures.total
