-- What answering a line returns and leaves.
use Rattle.std.specs.Prelude.{◌≡◌, ℕ, Bool, true, false, List}
use Rattle.flat_model.specs.Command.{Command}
use Rattle.flat_model.specs.Machine.{tick}
use Rattle.flat_model.specs.Replies.{reply_bytes, fault_bytes}
use Rattle.flat_model.specs.Trace.{TextFault, Line, Skip, Run, Fault}
use Rattle.undo_journal.specs.Headline.{KeepsHistory}
use Rattle.undo_journal.specs.Slots.{slots}
use Rattle.undo_journal.specs.Timeline.{Timeline, becomes}
use Rattle.line_engine.specs.Buffer.{Holds, LacksRoom}
use Rattle.line_engine.specs.FaultCodes.{reply_code, fault_code}
use Rattle.line_engine.specs.declared.answer.Answer.{Answer}
use Rattle.line_engine.specs.declared.answer.Answer.TheVariants.{Skipped, Answered, TooSmall, OutOfMemory}

abbrev pub is_told : Answer → Bool
is_told Skipped = false
is_told (Answered len code) = true
is_told (TooSmall needed) = false
is_told OutOfMemory = false

-- the first len bytes of the buffer are the output for the n-th line, which is not a command; or the output is longer than the buffer
abbrev pub AnswersFault : ℕ → TextFault → List ℕ → Answer → Type 0
AnswersFault n f out Skipped = ⊥
AnswersFault n f out (Answered len code) = Holds out len (fault_bytes n f) × (code ≡ fault_code f)
AnswersFault n f out (TooSmall needed) = LacksRoom out needed (fault_bytes n f)
AnswersFault n f out OutOfMemory = Unit {0}

-- the machine has run the command as the n-th, the first len bytes of the buffer are its output, and this is its code
pub record AnswersCommand (old : Timeline) (n : ℕ) (c : Command) (out : List ℕ) (len code : ℕ) (next : Timeline) : Type 0 where
  pub goes : next ≡ becomes old (tick slots old.machine c).0
  pub answered : Holds out len (reply_bytes n (tick slots old.machine c).1)
  pub code_is : code ≡ reply_code (tick slots old.machine c).1
  -- what was recorded can be undone, one command or a whole run, and the counts are exact
  pub history : KeepsHistory slots old c next

-- the command has run so; or the engine is unchanged, because the output is longer than the buffer or when out of memory
abbrev pub AnswersRun : Timeline → ℕ → Command → List ℕ → Answer → Timeline → Type 0
AnswersRun old n c out Skipped next = ⊥
AnswersRun old n c out (Answered len code) next = AnswersCommand old n c out len code next
AnswersRun old n c out (TooSmall needed) next = (next ≡ old) × LacksRoom out needed (reply_bytes n (tick slots old.machine c).1)
AnswersRun old n c out OutOfMemory next = next ≡ old

abbrev pub AnswersLine : Timeline → ℕ → Line → List ℕ → Answer → Timeline → Type 0
AnswersLine old n Skip out a next = (next ≡ old) × (a ≡ Skipped)
AnswersLine old n (Fault f) out a next = (next ≡ old) × AnswersFault n f out a
AnswersLine old n (Run c) out a next = AnswersRun old n c out a next
