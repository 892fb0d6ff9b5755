use Rattle.std.proofs.Common.{ℕ, sym, subst}
use Rattle.snzi_core.specs.Kept.{IsCore}
use Rattle.snzi_core.proofs.LawfulSteps.{Sums, ready_stripe}
use Rattle.snzi_core.proofs.machine.Core.stripe_add.Goals as goal

pub add-requires : goal.add-requires
add-requires g c =
    let r = subst (λ (i : ℕ). Sums c.args.self.now c.args.hand i c.args.n) (sym c.stripe_word-word.ensures.value)
    (ready_stripe c.args.self.now (subst IsCore c.self.view_is c.self.invariant) c.args.hand c.args.slot c.args.stripe c.args.n
    c.requires) in
    record { place = r.0; live = r.1; kept = r.2 }
