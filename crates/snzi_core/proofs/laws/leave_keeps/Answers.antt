use Rattle.std.proofs.Common.{◌≡◌, ◌≢◌, ⊎_elim}
use Rattle.snzi_core.specs.Shape.{line, parent}
use Rattle.snzi_core.proofs.Shapes.{is_family}
use Rattle.std.specs.Prelude.{slice_index}
use Rattle.snzi_core.specs.Changes.{Loses, Moves}
use Rattle.snzi_core.proofs.BalanceSteps.{leave_balance, last_balance, loss_muster, move_muster}
use Rattle.snzi_core.proofs.laws.leave_keeps.Goals as goal

pub returns : goal.returns
returns c = λ w s words hands id j h shape at inside node g how. ⊎_elim
    (λ (last : (slice_index words j ≡ 1) × (parent w s j ≢ j) × Moves j (parent w s j) h g). (
      (λ was. last_balance (line w s) (parent w s) (is_family w s shape) words hands id j h g at inside node last.1 last.0 last.2 was),
      (λ m alive room. move_muster hands id h g m at alive j (parent w s j) (room last.0 last.1) last.2),
    ))
    (λ (more : (parent w s j ≢ j → slice_index words j ≢ 1) × Loses j h g). (
      (λ was. leave_balance (line w s) (parent w s) (is_family w s shape) words hands id j h g at inside node more.0 more.1 was),
      (λ m alive room. loss_muster hands id h g m at alive j more.1),
    ))
    how
