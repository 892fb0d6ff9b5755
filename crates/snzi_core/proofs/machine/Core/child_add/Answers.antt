use Rattle.std.proofs.Common.{◌≡◌, ℕ, true, false, sym, ap, ◌∙◌, subst}
use Rattle.snzi_core.specs.CoreState.{node_of, parent_of}
use Rattle.snzi_core.specs.Lawful.{is_zero}
use Rattle.snzi_core.specs.Kept.{IsCore}
use Rattle.snzi_core.proofs.LawfulSteps.{Arrives, Descends, ready_first, ready_child}
use Rattle.snzi_core.proofs.machine.Core.child_add.Goals as goal

pub descend-requires : goal.descend-requires
descend-requires g c =
    let zero : is_zero c.args.self.now (node_of c.args.self.now c.args.at) ≡ true = ap (is_zero c.args.self.now) (sym c.node_word-word.ensures.value) ∙ sym c.is_zero.ensures ∙ c.if-is_zero.true in
    let r = subst (λ (i : ℕ). Descends c.args.self.now c.args.hand i c.node_word-word.result) (sym c.parent_word-parent.ensures.value)
    (subst (λ (i : ℕ). Descends c.args.self.now c.args.hand (parent_of c.args.self.now c.args.at) i) (sym c.node_word-word.ensures.value)
    (ready_first c.args.self.now (subst IsCore c.self.view_is c.self.invariant) c.args.hand c.args.at c.requires zero)) in
    record { place = r.0; live = r.1; room = r.2; token = r.3; kept = r.4 }

pub arrive-requires : goal.arrive-requires
arrive-requires g c =
    let more : is_zero c.args.self.now (node_of c.args.self.now c.args.at) ≡ false = ap (is_zero c.args.self.now) (sym c.node_word-word.ensures.value) ∙ sym c.is_zero.ensures ∙ c.if-is_zero.false in
    let r = subst (λ (i : ℕ). Arrives c.args.self.now c.args.hand i) (sym c.node_word-word.ensures.value)
    (ready_child c.args.self.now (subst IsCore c.self.view_is c.self.invariant) c.args.hand c.args.at c.requires more) in
    record { place = r.0; live = r.1; room = r.2; kept = r.3 }
