use Rattle.snzi_tree.specs.Hands.{holds}
use Rattle.snzi_tree.proofs.Leaves.{gains_content, gains_leaves}
use Rattle.snzi_tree.proofs.board.Board.arrive.Goals as goal

pub returns-clause-content : goal.returns-clause-content
returns-clause-content g c = gains_content g.row.W g.row.L c.args.self.now.shape.4 (holds c.args.hand.now) (holds c.arrive_at.new.hand) c.args.t c.requires.place.1 c.arrive_at.ensures.token

pub returns-clause-at_leaves : goal.returns-clause-at_leaves
returns-clause-at_leaves g c = gains_leaves g.row.W g.row.L c.args.self.now.shape.4 (holds c.args.hand.now) (holds c.arrive_at.new.hand) c.args.t c.requires.place.1 c.arrive_at.ensures.token
