use Rattle.snzi_core.specs.Shape.{line, parent}
use Rattle.snzi_core.proofs.Shapes.{is_family}
use Rattle.snzi_core.proofs.BalanceSteps.{add_balance, gain_muster}
use Rattle.snzi_core.proofs.laws.root_add_keeps.Goals as goal

pub returns : goal.returns
returns c = λ w s words hands id j h shape at inside node root g gains. (
  (λ was. add_balance (line w s) (parent w s) (is_family w s shape) words hands id j h g at inside node (λ apart. absurd (apart root)) gains was),
  (λ m alive room. gain_muster hands id h g m at alive j room gains),
)
