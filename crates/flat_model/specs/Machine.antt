-- The machine: the present state, and for each recorded command, newest first, the command and the state before it.
use Rattle.std.specs.Prelude.{ℕ, zero, suc, ◌≤◌, cond, List, [], ◌∷◌, Option, Some, None, length}
use Rattle.flat_model.specs.State.{State, start}
use Rattle.flat_model.specs.Command.{Command, MakeGroup, RemoveGroup, Fork, Exit, Move, SetLimit, Kill, Show, Locate, Undo}
use Rattle.flat_model.specs.Command.{Refusal, Reply, Done, Text, Undone, Refused, NothingToUndo}
use Rattle.flat_model.specs.Command.{is_undo, changes, is_counted}
use Rattle.flat_model.specs.Step.{refusal, after, after_refusal}
use Rattle.flat_model.specs.FileText.{file_text, home_text}

pub record Machine : Type 0 where
  pub state : State
  pub past : List (Command × State)

abbrev pub new_machine : Machine
new_machine = record { state = start; past = [] }

-- the reply to an accepted command
abbrev pub accepted : State → Command → Reply
accepted s (MakeGroup p) = Done
accepted s (RemoveGroup p) = Done
accepted s (Fork from child) = Done
accepted s (Exit pid) = Done
accepted s (Move p pid) = Done
accepted s (SetLimit p file value) = Done
accepted s (Kill g) = Done
accepted s (Show p file) = Text (file_text s p file)
accepted s (Locate pid) = Text (home_text s pid)
accepted s Undo = Done

-- the machine after a recorded command that leaves the state s
abbrev pub recorded : Machine → Command → State → Machine
recorded m c s = record { state = s; past = (c, m.state) ∷ m.past }

-- the machine after one command, and the reply
abbrev pub outcome : Machine → Command → Option Refusal → Machine × Reply
outcome m c None = (cond (changes c) (recorded m c (after m.state c)) m, accepted m.state c)
outcome m c (Some r) = (cond (is_counted r) (recorded m c (after_refusal m.state r)) m, Refused r)

-- undo removes the newest entry, whichever session issued it; it tests no limit and is not recorded
abbrev pub undone : State → List (Command × State) → Machine × Reply
undone s [] = (record { state = s; past = [] }, NothingToUndo)
undone s (e ∷ past) = (record { state = e.1; past = past }, Undone e.0)

-- one step of the machine, if there may be `slots` groups besides the root
abbrev pub tick : ℕ → Machine → Command → Machine × Reply
tick slots m c = cond (is_undo c) (undone m.state m.past) (outcome m c (refusal slots m.state c))

-- the replies to a list of commands, and the machine after them
abbrev pub replies : ℕ → Machine → List Command → List Reply
replies slots m [] = []
replies slots m (c ∷ cs) = (tick slots m c).1 ∷ replies slots (tick slots m c).0 cs

abbrev pub end_of : ℕ → Machine → List Command → Machine
end_of slots m [] = m
end_of slots m (c ∷ cs) = end_of slots (tick slots m c).0 cs

-- the machine after a list of commands, from the start
abbrev pub after_all : ℕ → List Command → Machine
after_all slots cs = end_of slots new_machine cs

-- n undos
abbrev pub undos : ℕ → List Command
undos zero = []
undos (suc n) = Undo ∷ undos n

-- the past never gets shorter than `floor`: no undo in the list undoes a command from before the list
abbrev pub TakesBackItsOwn : ℕ → ℕ → Machine → List Command → Type 0
TakesBackItsOwn slots floor m [] = Unit {0}
TakesBackItsOwn slots floor m (c ∷ cs) = (floor ≤ length (tick slots m c).0.past) × TakesBackItsOwn slots floor (tick slots m c).0 cs
