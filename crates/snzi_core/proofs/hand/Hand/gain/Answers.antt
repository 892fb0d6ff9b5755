use Rattle.std.proofs.Common.{ℕ, ◌<◌, List, length, ap, sym, subst}
use Rattle.snzi_core.specs.declared.holding.Holding.{Holding}
use Rattle.snzi_core.proofs.Hands.{gained}
use Rattle.snzi_core.proofs.hand.Hand.gain.Goals as goal

pub returns : goal.returns
returns g c = rw (← c.self.view_is) (gained c.self.inside.role c.self.inside.tokens.items c.self.inside.amounts.items c.args.word c.index_mut.result.now
    (subst (λ (l : List ℕ). c.args.word < length l) (sym (ap (λ (h : Holding). h.tokens) c.self.view_is)) c.requires.place) c.index_mut.ensures.value)
