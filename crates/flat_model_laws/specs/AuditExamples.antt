-- The values of the worked examples of audits: a desk with two sessions after three commands, of sessions 0, 1 and 0.
use Rattle.std.specs.Prelude.{ℕ, List, [], ◌∷◌, codes}
use Rattle.flat_model.specs.File.{PidsCurrent}
use Rattle.flat_model.specs.Command.{Command, Reply, MakeGroup, Show, Undo, Done, Text, Undone}
use Rattle.flat_model.specs.Log.{Entry, Receipt, Session}

-- a command and its reply
pub record Exchange : Type 0 where
  pub command : Command
  pub reply : Reply

abbrev pub entry : ℕ → Exchange → Entry
entry k x = record { session = k; command = x.command; reply = x.reply }

abbrev pub receipt : ℕ → Exchange → Receipt
receipt i x = record { number = i; command = x.command; reply = x.reply }

abbrev pub session : ℕ → List Receipt → Session
session k rs = record { number = k; receipts = rs }

abbrev pub three : Exchange → Exchange → Exchange → List Entry
three a b c = entry 0 a ∷ entry 1 b ∷ entry 0 c ∷ []

-- the three exchanges of one worked example
abbrev pub made : Exchange
made = record { command = MakeGroup (codes "x" ∷ []); reply = Done }

abbrev pub shown : Exchange
shown = record { command = Show (codes "x" ∷ []) PidsCurrent; reply = Text (codes "0\n") }

abbrev pub undone : Exchange
undone = record { command = Undo; reply = Undone (MakeGroup (codes "x" ∷ [])) }
