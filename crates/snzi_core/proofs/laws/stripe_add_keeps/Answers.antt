use Rattle.snzi_core.specs.Shape.{line, parent}
use Rattle.snzi_core.proofs.Shapes.{is_family}
use Rattle.snzi_core.proofs.OneWord.{stripe_law}
use Rattle.snzi_core.proofs.BalanceSteps.{raise_muster}
use Rattle.snzi_core.proofs.laws.stripe_add_keeps.Goals as goal

pub returns : goal.returns
returns c = λ w s words hands id j h shape at inside striped n g raises. (
  (λ was. stripe_law (line w s) (parent w s) (is_family w s shape) words hands id j n h g at inside striped raises.0 raises.1 raises.2 was),
  (λ m alive room. raise_muster hands id h g m at alive j n raises),
)
