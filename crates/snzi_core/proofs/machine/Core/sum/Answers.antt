use Rattle.std.proofs.Common.{ℕ, ◌<◌, subst}
use Rattle.snzi_core.specs.Shape.{leaves}
use Rattle.snzi_core.specs.Kept.{IsCore}
use Rattle.snzi_core.proofs.Words.{sum_more}
use Rattle.snzi_core.proofs.CoreSteps.{word_read}
use Rattle.snzi_core.proofs.machine.Core.sum.Goals as goal

pub loop-stripe-preserved : goal.loop-stripe-preserved
loop-stripe-preserved g c =
    let low : c.loop-stripe.stripe < leaves c.args.self.now.nodes = subst (λ (n : ℕ). c.loop-stripe.stripe < n) c.leaves-stripe-end.ensures c.loop-stripe-test.true in
    sum_more c.args.self.now c.args.slot c.loop-stripe.stripe c.loop-stripe.all c.index.result.now (subst IsCore c.self.view_is c.self.invariant) low c.loop-stripe.invariant
    (word_read (record {
      slots = c.self.inside.slots;
      nodes = c.self.inside.nodes;
      words = c.self.inside.words.items;
      hands = c.self.inside.hands.items;
    }) c.args.self.now c.stripe_word.result _ c.index.result.now
    c.self.view_is c.stripe_word.ensures.value (c.stripe_word.ensures.inside c.requires low) c.index.ensures)
