-- Commands that run in a row, each by the session whose turn it is.
use Rattle.std.specs.Prelude.{◌≡◌, ℕ, ◌+◌, ◌%◌, List, [], ◌∷◌, ◌++◌, length, Some, slice_get, slice_set}
use Rattle.flat_model.specs.Command.{Command}
use Rattle.flat_model.specs.Log.{Session}
use Rattle.sessions.specs.Receipts.{LastAt}

-- the session at the index of the turn, modulo their number, has one more receipt, which is of this command and has the turn's number
pub record TakesTurn (turn : ℕ) (c : Command) (before after : List Session) : Type 0 where
  pub old : Session
  pub new : Session
  pub is_at : slice_get before (turn % length before) ≡ Some old
  pub ran : LastAt turn c old new
  pub after_is : after ≡ slice_set before (turn % length before) new

-- each of the commands takes its turn, the first one this turn, the next the next
abbrev pub TakeTurns : ℕ → List Command → List Session → List Session → Type 0
TakeTurns turn [] before after = after ≡ before
TakeTurns turn (c ∷ cs) before after = (between : List Session) × TakesTurn turn c before between × TakeTurns (turn + 1) cs between after

-- some of the commands take their turns: those before one that doesn't
pub record TakeSomeTurns (turn : ℕ) (cs : List Command) (before after : List Session) : Type 0 where
  pub done : List Command
  pub refused : Command
  pub rest : List Command
  pub commands : cs ≡ done ++ refused ∷ rest
  pub turns : TakeTurns turn done before after
