use Rattle.std.proofs.Common.{◌≡◌, ◌≢◌, ⊎_elim, arith}
use Rattle.snzi_core.specs.Shape.{line, parent}
use Rattle.snzi_core.proofs.Shapes.{is_family}
use Rattle.std.specs.Prelude.{slice_index}
use Rattle.snzi_core.specs.Changes.{Gains, Moves}
use Rattle.snzi_core.proofs.BalanceSteps.{add_balance, first_balance, gain_muster, move_muster}
use Rattle.snzi_core.proofs.laws.child_add_keeps.Goals as goal

pub returns : goal.returns
returns c = λ w s words hands id j h shape at inside node child g how. ⊎_elim
    (λ (first : (slice_index words j ≡ 0) × Moves (parent w s j) j h g). (
      (λ was. first_balance (line w s) (parent w s) (is_family w s shape) words hands id j h g at inside node child first.0 first.1 was),
      (λ m alive room. move_muster hands id h g m at alive (parent w s j) j room first.1),
    ))
    (λ (more : (slice_index words j ≢ 0) × Gains j h g). (
      (λ was. add_balance (line w s) (parent w s) (is_family w s shape) words hands id j h g at inside node (λ _. let n = more.0 in omega arith) more.1 was),
      (λ m alive room. gain_muster hands id h g m at alive j room more.1),
    ))
    how
