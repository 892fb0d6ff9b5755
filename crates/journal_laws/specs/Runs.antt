-- A run of answered commands, one after another.
use Rattle.std.specs.Prelude.{◌≡◌, ℕ, List, [], ◌∷◌}
use Rattle.flat_model.specs.Command.{Command}
use Rattle.undo_journal.specs.Headline.{KeepsHistory}
use Rattle.undo_journal.specs.Timeline.{Timeline}

-- each command has kept the history of the engine that the one before it left, and the last has left this one
abbrev pub KeepsEach : ℕ → Timeline → List (Command × Timeline) → Timeline → Type 0
KeepsEach slots t [] last = last ≡ t
KeepsEach slots t (e ∷ steps) last = KeepsHistory slots t e.0 e.1 × KeepsEach slots e.1 steps last
