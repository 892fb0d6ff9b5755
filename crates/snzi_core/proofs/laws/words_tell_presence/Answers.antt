use Rattle.snzi_core.specs.Shape.{line, parent}
use Rattle.snzi_core.proofs.Shapes.{is_family}
use Rattle.snzi_core.proofs.Presence.{present_positive, positive_present}
use Rattle.snzi_core.proofs.laws.words_tell_presence.Goals as goal

pub returns : goal.returns
returns c = λ w s words hands j shape was node. (
  (λ p. positive_present (line w s) (parent w s) (is_family w s shape) words hands was j node p),
  (λ p. present_positive (line w s) (parent w s) (is_family w s shape) words hands was j node p),
)
