use Rattle.std.proofs.Common.{ℕ, ◌+◌, sym, ap, ◌∙◌}
use Rattle.snzi_tree.specs.Hands.{holds}
use Rattle.snzi_tokens.specs.Listed.{one_at}
use Rattle.board_meter.proofs.Excess.{uncharged, same_content}
use Rattle.board_meter.proofs.charges.uncharge.Goals as goal

pub returns-clause-content : goal.returns-clause-content
returns-clause-content g c s j =
    let t = c.args.token in
    ap (λ (n : ℕ). n + one_at t.slot t.leaf s j) (same_content g.row.W g.row.L (holds c.depart.new.hand) (holds c.take.new.hand) (sym c.take.ensures.amount.2) s j)
    ∙ c.depart.ensures.content s j

pub returns-clause-in_step : goal.returns-clause-in_step
returns-clause-in_step g c =
    uncharged g.row.W g.row.L c.args.board.now.shape.4 (holds c.args.hand.now) (holds c.depart.new.hand) (holds c.take.new.hand)
    c.args.token c.args.stripe c.requires.place.1 c.depart.ensures.at_leaves c.depart.ensures.token c.take.ensures.amount
    c.take.ensures.total
