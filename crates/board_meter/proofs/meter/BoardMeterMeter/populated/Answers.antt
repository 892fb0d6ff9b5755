use Rattle.std.proofs.Common.{ℕ, IsTrue, ◌<◌, subst, ap}
use Rattle.std.specs.Prelude.{◌↔◌}
use Rattle.snzi_core.specs.declared.holding.Holding.{Holding}
use Rattle.snzi_tree.specs.Contents.{tokens_in}
use Rattle.snzi_tree.specs.Hands.{holds}
use Rattle.board_meter.specs.declared.shape.TheConstants.{NODES, ROW}
use Rattle.board_meter.proofs.meter.BoardMeterMeter.populated.Goals as goal

pub returns-clause-answer : goal.returns-clause-answer
returns-clause-answer c =
    let h = holds c.self.inside.main in
    let i = c.self.invariant.1 in
    let s : ℕ = c.args.slot in
    subst (λ (n : ℕ). IsTrue c.query.result ↔ 0 < n)
    (ap (λ (k : Holding). tokens_in NODES ROW k s) c.self.view_is)
    (c.query.ensures.content i.alone i.at_leaves)
