use Rattle.std.proofs.Common.{◌≡◌, take, ap, ◌∙◌, refl, arith}
use Rattle.std.proofs.lemmas.List.{take_all}
use Rattle.striped_adder.specs.Total.{total}
use Rattle.striped_adder.proofs.Wrap.{total-more}
use Rattle.striped_adder.proofs.stripes.Stripes.sum.Goals as goal

pub loop-word-init : goal.loop-word-init
unfolding total
loop-word-init g c = refl

pub loop-word-preserved : goal.loop-word-preserved
loop-word-preserved g c = let e : c.loop-word.all ≡ total (take c.loop-word.word-index c.self.inside.words) = c.loop-word.invariant in
    rw e (total-more c.self.inside.words c.loop-word.word-index (omega arith))

pub returns : goal.returns
returns g c =
    let e : c.loop-word.all ≡ total (take c.loop-word.word-index c.self.inside.words) = c.loop-word.invariant in
    e ∙ ap total (take_all c.loop-word.word-index c.self.inside.words (omega arith)) ∙ c.self.view_is
