use Rattle.snzi_core.specs.Shape.{line, parent}
use Rattle.snzi_core.proofs.Shapes.{is_family}
use Rattle.snzi_core.proofs.Presence.{main_sum, main_covers}
use Rattle.snzi_core.proofs.laws.main_knows.Goals as goal

pub returns : goal.returns
returns c = λ w s words hands id j h shape ruled at alone. (
  (λ striped. main_sum (line w s) words hands id j h ruled at alone striped),
  (λ node. main_covers (line w s) (parent w s) (is_family w s shape) words hands id j h ruled at alone node),
)
