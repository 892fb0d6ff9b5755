use Rattle.std.proofs.Common.{ℕ, List, sym, subst}
use Rattle.snzi_core.specs.Shape.{line}
use Rattle.snzi_core.proofs.NumberLists.{set_again}
use Rattle.std.proofs.lemmas.List.{set-get_or}
use Rattle.snzi_core.specs.declared.holding.Holding.{Holding}
use Rattle.snzi_core.specs.Balance.{Balanced, Mustered}
use Rattle.snzi_core.proofs.laws.load_keeps.Goals as goal

pub returns : goal.returns
returns c = λ w s words hands id j h shape at inside. (
  (λ was. subst (λ (x : List ℕ × List Holding). Balanced (line w s) x.0 x.1) (λ i. (sym (set-get_or words j 0) i, sym (set_again hands id h at) i)) was),
  (λ m alive room. subst Mustered (sym (set_again hands id h at)) m),
)
