-- What is known of the output before its command runs.
use Rattle.std.specs.Prelude.{◌≡◌, ℕ, Bool, true, false, cond, List}
use Rattle.flat_model.specs.Command.{Command, Reply, Done, Text, Undone, Refused, NothingToUndo, is_undo, is_counted}
use Rattle.flat_model.specs.Machine.{Machine, undone}
use Rattle.flat_model.specs.Replies.{reply_bytes}
use Rattle.line_engine.specs.Buffer.{Holds, LacksRoom}
use Rattle.line_engine.specs.FaultCodes.{reply_code}
use Rattle.line_engine.specs.declared.answer.Answer.{Answer}
use Rattle.line_engine.specs.declared.answer.Answer.TheVariants.{Skipped, Answered, TooSmall, OutOfMemory}

-- the reply if the command changes the machine and is not refused
abbrev pub ready_reply : Machine → Command → Reply
ready_reply m c = cond (is_undo c) (undone m.state m.past).1 Done

-- a reply of an accepted change
abbrev pub is_loud : Reply → Bool
is_loud Done = true
is_loud (Text text) = false
is_loud (Undone c) = true
is_loud (Refused r) = false
is_loud NothingToUndo = false

-- a refusal that raises event totals
abbrev pub is_counted_reply : Reply → Bool
is_counted_reply Done = false
is_counted_reply (Text text) = false
is_counted_reply (Undone c) = false
is_counted_reply (Refused r) = is_counted r
is_counted_reply NothingToUndo = false

-- the first len bytes of the buffer are the output for the reply; a reply that is not output is not that of an accepted change
abbrev pub AnswersReply : ℕ → Reply → List ℕ → Answer → Type 0
AnswersReply n r out Skipped = ⊥
AnswersReply n r out (Answered len code) = Holds out len (reply_bytes n r) × (code ≡ reply_code r)
AnswersReply n r out (TooSmall needed) = (is_loud r ≡ false) × LacksRoom out needed (reply_bytes n r)
AnswersReply n r out OutOfMemory = is_loud r ≡ false
