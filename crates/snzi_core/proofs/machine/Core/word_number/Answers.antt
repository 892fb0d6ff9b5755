use Rattle.std.proofs.Common.{ℕ, ◌+◌, ◌*◌, ◌<◌, length, sym, subst}
use Rattle.snzi_core.specs.Kept.{IsCore}
use Rattle.snzi_core.proofs.Words.{word_inside}
use Rattle.snzi_core.proofs.machine.Core.word_number.Goals as goal

pub returns-clause-inside : goal.returns-clause-inside
returns-clause-inside g c =
    λ slot word. subst (λ (s : ℕ). c.args.slot * s + c.args.k < length c.args.self.now.words) (sym c.span.ensures.value)
    (word_inside c.args.self.now c.args.slot c.args.k (subst IsCore c.self.view_is c.self.invariant) slot word)
