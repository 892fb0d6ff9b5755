use Rattle.std.proofs.Common.{ℕ, sym, ◌∙◌, subst}
use Rattle.snzi_core.specs.CoreState.{parent_of}
use Rattle.snzi_core.specs.Kept.{IsCore}
use Rattle.snzi_core.proofs.LawfulSteps.{Departs, Ascends, ready_last, ready_leave}
use Rattle.snzi_core.proofs.machine.Core.leave.Goals as goal

pub ascend-requires : goal.ascend-requires
ascend-requires g c =
    let r = subst (λ (i : ℕ). Ascends c.args.self.now c.args.hand i c.node_word-word.result) (sym c.parent_word-parent.ensures.value)
    (subst (λ (i : ℕ). Ascends c.args.self.now c.args.hand (parent_of c.args.self.now c.args.at) i) (sym c.node_word-word.ensures.value)
    (ready_last c.args.self.now (subst IsCore c.self.view_is c.self.invariant) c.args.hand c.args.at c.requires (sym c.passes_up.ensures
    ∙ c.if-passes_up.true))) in
    record { place = r.0; live = r.1; token = r.2; room = r.3; kept = r.4 }

pub depart-requires : goal.depart-requires
depart-requires g c =
    let r = subst (λ (i : ℕ). Departs c.args.self.now c.args.hand i) (sym c.node_word-word.ensures.value)
    (ready_leave c.args.self.now (subst IsCore c.self.view_is c.self.invariant) c.args.hand c.args.at c.requires (sym c.passes_up.ensures
    ∙ c.if-passes_up.false)) in
    record { place = r.0; live = r.1; token = r.2; kept = r.3 }
