use Rattle.std.proofs.Common.{ℕ, sym, subst}
use Rattle.snzi_core.specs.Kept.{IsCore}
use Rattle.snzi_core.proofs.LawfulSteps.{Arrives, ready_root}
use Rattle.snzi_core.proofs.machine.Core.root_add.Goals as goal

pub arrive-requires : goal.arrive-requires
arrive-requires g c =
    let r = subst (λ (i : ℕ). Arrives c.args.self.now c.args.hand i) (sym c.node_word-word.ensures.value)
    (ready_root c.args.self.now (subst IsCore c.self.view_is c.self.invariant) c.args.hand c.args.slot c.requires) in
    record { place = r.0; live = r.1; room = r.2; kept = r.3 }
