use Rattle.std.proofs.Common.{◌∙◌, ℕ, ap, arith}
use Rattle.snzi_core.specs.declared.holding.Holding.{Holding}
use Rattle.snzi_tree.specs.Contents.{tokens_in, amount_in}
use Rattle.snzi_tree.specs.Hands.{holds}
use Rattle.snzi_tree.proofs.Leaves.{in_held}
use Rattle.board_meter.specs.declared.shape.TheConstants.{NODES, ROW}
use Rattle.board_meter.proofs.Excess.{level_sum}
use Rattle.board_meter.proofs.meter.BoardMeterMeter.current.Goals as goal

pub returns-clause-answer : goal.returns-clause-answer
returns-clause-answer c =
    let h = holds c.self.inside.main in
    let i = c.self.invariant.1 in
    let s : ℕ = c.args.slot in
    let few = in_held NODES ROW h s in
    let most = i.few in
    c.sum.ensures.alone i.alone
    ∙ level_sum (amount_in NODES ROW h s) (tokens_in NODES ROW h s) (i.level s) (omega (arith, few, most))
    ∙ ap (λ (k : Holding). tokens_in NODES ROW k s) c.self.view_is
