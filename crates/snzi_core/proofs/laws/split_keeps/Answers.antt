use Rattle.snzi_core.specs.Shape.{line, parent}
use Rattle.snzi_core.proofs.Shapes.{is_family}
use Rattle.snzi_core.proofs.SplitBalance.{split_balance, split_muster}
use Rattle.snzi_core.proofs.laws.split_keeps.Goals as goal

pub returns : goal.returns
returns c = λ w s words hands id h g helper shape at parts. (
  (λ was. split_balance (line w s) (parent w s) (is_family w s shape) words hands id h at g helper parts was),
  (λ m room. split_muster (line w s) (parent w s) (is_family w s shape) words hands id h at g helper parts m room),
)
