use Rattle.snzi_core.specs.Shape.{line, parent}
use Rattle.snzi_core.proofs.Shapes.{is_family}
use Rattle.snzi_core.proofs.SplitBalance.{join_balance, join_muster}
use Rattle.snzi_core.proofs.laws.join_keeps.Goals as goal

pub returns : goal.returns
returns c = λ w s words hands id other h helper g shape at there unites. (
  (λ was. join_balance (line w s) (parent w s) (is_family w s shape) words hands id h at other helper g there unites was),
  (λ m cap. join_muster (line w s) (parent w s) (is_family w s shape) words hands id h at other helper g there unites m cap),
)
