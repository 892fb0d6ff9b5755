-- The engine's replies are the machine's, and its newest record is the one that the machine's past requires.
use Rattle.std.specs.Prelude.{◌≡◌, ℕ, Bool, true, false, List, [], ◌∷◌, map, reverse, Option, Some, None}
use Rattle.flat_model.specs.State.{State}
use Rattle.flat_model.specs.Command as model
use Rattle.flat_model.specs.Step.{refusal, after, after_refusal}
use Rattle.flat_model.specs.Inverse as model_inverse
use Rattle.flat_model.specs.Inverse.{back, inverse, inverse_of_refusal}
use Rattle.flat_model.specs.Machine.{tick}
use Rattle.undo_journal.specs.declared.reply.Reply.{Reply}
use Rattle.undo_journal.specs.CommandMeaning.{reply_of}
use Rattle.undo_journal.specs.Timeline.{Timeline, becomes}

-- on this command the machine with so many slots makes its step, this is its reply, and nothing is forgotten
pub record Answers {A : Type 0} (slots : ℕ) (old : Timeline) (c : model.Command) (reply : Reply A) (new : Timeline) : Type 0 where
  pub state : new ≡ becomes old (tick slots old.machine c).0
  pub reply_is : reply_of reply ≡ Some (tick slots old.machine c).1

-- ---- records

-- the record and the state that a command leaves, whether it is accepted or refused
abbrev pub record_by : State → model.Command → Option model.Refusal → Option model_inverse.Inverse
record_by s c None = inverse s c
record_by s c (Some r) = inverse_of_refusal r

abbrev pub record_of : ℕ → State → model.Command → Option model_inverse.Inverse
record_of slots s c = record_by s c (refusal slots s c)

abbrev pub state_by : State → model.Command → Option model.Refusal → State
state_by s c None = after s c
state_by s c (Some r) = after_refusal s r

abbrev pub state_after : ℕ → State → model.Command → State
state_after slots s c = state_by s c (refusal slots s c)

-- ---- the newest recorded command

abbrev pub newest_command : List (model.Command × State) → Option model.Command
newest_command [] = None
newest_command (e ∷ past) = Some e.0

-- the recorded commands, oldest first
abbrev pub recorded_commands : List (model.Command × State) → List model.Command
recorded_commands past = reverse (map (λ e. e.0) past)

-- i is the record that the newest recorded command left, and restores the state before it
abbrev pub IsNewest : ℕ → State → List (model.Command × State) → model_inverse.Inverse → Type 0
IsNewest slots now [] i = ⊥
IsNewest slots now (e ∷ past) i = (record_of slots e.1 e.0 ≡ Some i) × (back i now ≡ e.1)

-- undoing a creation only removes, and undoing a limit or a counted fork only overwrites
abbrev pub needs_no_memory : Option model_inverse.Inverse → Bool
needs_no_memory None = false
needs_no_memory (Some (model_inverse.Made p)) = true
needs_no_memory (Some (model_inverse.Removed p attr)) = false
needs_no_memory (Some (model_inverse.Forked pid peaks)) = true
needs_no_memory (Some (model_inverse.Exited pid p)) = false
needs_no_memory (Some (model_inverse.Moved pid p peaks)) = false
needs_no_memory (Some (model_inverse.Limited p file value)) = true
needs_no_memory (Some (model_inverse.Counted a)) = true
needs_no_memory (Some (model_inverse.Killed lost)) = false

-- whether an undo allocates nothing: no command is left to undo, or its record needs no memory
abbrev pub undoes_without_memory : ℕ → List (model.Command × State) → Bool
undoes_without_memory slots [] = true
undoes_without_memory slots (e ∷ past) = needs_no_memory (record_of slots e.1 e.0)
