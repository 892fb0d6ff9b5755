use Rattle.std.proofs.Common.{◌≡◌, ◌∙◌, length, arith}
use Rattle.undo_journal.proofs.Histories.{depth_is}
use Rattle.undo_journal.proofs.engine.Engine.depth.Goals as goal

pub returns : goal.returns
returns g c =
    let e : c.len.result ≡ length c.self.inside.journal.items = omega (arith, c.self.inside.journal.ok.0) in
    rw (← c.self.view_is) (e ∙ depth_is c.self.inside.charges c.self.inside.journal.items)
