use Rattle.std.proofs.Common.{ℕ, ◌<◌, List, length, ap, sym, subst}
use Rattle.snzi_core.specs.declared.holding.Holding.{Holding}
use Rattle.snzi_core.proofs.Hands.{raised}
use Rattle.snzi_core.proofs.hand.Hand.raise.Goals as goal

pub returns : goal.returns
returns g c = rw (← c.self.view_is) (raised c.self.inside.role c.self.inside.tokens.items c.self.inside.amounts.items c.args.word c.args.n c.index.result.now
    (subst (λ (l : List ℕ). c.args.word < length l) (sym (ap (λ (h : Holding). h.amounts) c.self.view_is)) c.requires) c.index.ensures)
