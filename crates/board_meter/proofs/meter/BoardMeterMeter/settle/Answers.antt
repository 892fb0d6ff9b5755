use Rattle.std.proofs.Common.{◌≡◌, ℕ, ◌+◌, subst}
use Rattle.snzi_core.specs.declared.holding.Holding.{Holding}
use Rattle.snzi_tree.specs.Contents.{content_of}
use Rattle.snzi_tree.specs.Hands.{holds}
use Rattle.snzi_tokens.specs.Listed.{listed_at}
use Rattle.pids_charge.proofs.InParts.{parts_settle}
use Rattle.board_meter.specs.declared.shape.TheConstants.{NODES, ROW}
use Rattle.board_meter.proofs.meter.BoardMeterMeter.settle.Goals as goal

pub returns-clause-parts : goal.returns-clause-parts
returns-clause-parts g c helpers =
    let new = holds c.settle_parts.new.main in
    parts_settle helpers c.args.leaving.now c.args.arriving.now (content_of NODES ROW c.args.self.now) (content_of NODES ROW new) c.requires.charged
    (subst (λ (h : Holding). (s j : ℕ) → content_of NODES ROW new s j + listed_at c.args.leaving.now s j ≡ content_of NODES ROW h s j
    + listed_at c.args.arriving.now s j) c.self.view_is c.settle_parts.ensures.settled.content)
