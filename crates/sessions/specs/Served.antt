-- What one call of a session does under the lock.
use Rattle.std.specs.Prelude.{◌≡◌, ℕ, ◌<◌, List, [], ◌∷◌, ◌++◌, Bool, true, false, Option, Some, None, Result, Ok, Err, vec_len}
use Rattle.flat_model.specs.Command as model
use Rattle.flat_model.specs.Machine.{tick}
use Rattle.flat_model.specs.Log.{Entry, Receipt, entry_of}
use Rattle.undo_journal.specs.declared.reply.Reply.{Reply}
use Rattle.undo_journal.specs.CommandMeaning.{reply_of}
use Rattle.undo_journal.specs.Timeline.{Timeline, becomes}
use Rattle.sessions.specs.declared.fault.RunFault.{RunFault}
use Rattle.sessions.specs.declared.fault.RunFault.TheVariants.{OutOfMemory, TurnPassed, Halted}
use Rattle.sessions.specs.declared.book.Book.{Book}
use Rattle.sessions.specs.declared.state.DeskState.{DeskState}
use Rattle.sessions.specs.SessionMeaning.{slots}

-- on this command the machine makes its step, both replies are its reply, and nothing is forgotten
pub record AnswersTwice {A : Type 0} (old : Timeline) (c : model.Command) (reply again : Reply A) (new : Timeline) : Type 0 where
  pub state : new ≡ becomes old (tick slots old.machine c).0
  pub reply_is : reply_of reply ≡ Some (tick slots old.machine c).1
  pub again_is : reply_of again ≡ Some (tick slots old.machine c).1

-- one more receipt, of this command
abbrev pub Appends : model.Command → List Receipt → List Receipt → Type 0
Appends c before after = (r : Receipt) × (after ≡ before ++ r ∷ []) × (r.command ≡ c)

-- one more receipt, of this command and with this number
abbrev pub AppendsAt : ℕ → model.Command → List Receipt → List Receipt → Type 0
AppendsAt turn c before after =
    (r : Receipt) × (after ≡ before ++ r ∷ []) × (r.command ≡ c) × (r.number ≡ turn)

-- a turn that has passed is below the length that the fault names
abbrev pub IsLate : ℕ → RunFault → Type 0
IsLate turn (TurnPassed len) = turn < len
IsLate turn Halted = Unit {0}
IsLate turn OutOfMemory = Unit {0}

-- the fault names no turn
abbrev pub NamesNoTurn : RunFault → Type 0
NamesNoTurn (TurnPassed len) = ⊥
NamesNoTurn Halted = Unit {0}
NamesNoTurn OutOfMemory = Unit {0}

abbrev pub book_len : Option Book → ℕ
book_len (Some b) = vec_len b.log
book_len None = 0

abbrev pub log_len : DeskState → ℕ
log_len h = book_len h.book

abbrev pub IsEarlyFor : Option Book → Bool → ℕ → Type 0
IsEarlyFor (Some b) halted turn = (halted ≡ false) × (vec_len b.log < turn)
IsEarlyFor None halted turn = ⊥

-- the turn has not come yet
abbrev pub IsEarly : DeskState → ℕ → Type 0
IsEarly h turn = IsEarlyFor h.book h.is_halted turn

abbrev pub reached_in : Option Book → Bool → Option ℕ
reached_in (Some b) false = Some (vec_len b.log)
reached_in (Some b) true = None
reached_in None halted = None

-- the length of the log, or none if the desk is halted or closed
abbrev pub reached_of : DeskState → Option ℕ
reached_of h = reached_in h.book h.is_halted

-- ---- how a call leaves the value behind the lock, and its result by what it found there

-- the state of a book's engine, and its log
pub record Pages : Type 0 where
  pub engine : Timeline
  pub log : List Entry

abbrev pub pages_of : Option Book → Option Pages
pages_of (Some b) = Some (record { engine = b.engine; log = b.log.items })
pages_of None = None

-- the log; a closed desk has none
abbrev pub log_in : Option Book → List Entry
log_in (Some b) = b.log.items
log_in None = []

-- engine and log are unchanged, and so are the turns that are waited for and whether the desk is halted
abbrev pub IsSame : DeskState → DeskState → Type 0
IsSame before after = (pages_of after.book ≡ pages_of before.book) × (after.waits ≡ before.waits) × (after.is_halted ≡ before.is_halted)

-- nothing has changed but the turns that are waited for
abbrev pub IsBut : DeskState → DeskState → Type 0
IsBut before after = after ≡ record before { waits = after.waits }

-- this session ran this command: the log has one more entry, which is of the session, and its receipt, with that number, follows the
-- session's others; the turns that are waited for are unchanged
pub record Served (session : ℕ) (c : model.Command) (before after : DeskState) (receipts more : List Receipt) : Type 0 where
  pub receipt : Receipt
  pub command : receipt.command ≡ c
  pub number : receipt.number ≡ log_len before
  pub logged : log_in after.book ≡ log_in before.book ++ entry_of session receipt ∷ []
  pub handed : more ≡ receipts ++ receipt ∷ []
  pub waits : after.waits ≡ before.waits
  pub halted : after.is_halted ≡ before.is_halted

abbrev pub IsServingFor : Option Book → Bool → Type 0
IsServingFor (Some b) halted = halted ≡ false
IsServingFor None halted = ⊥

-- the desk is neither halted nor closed
abbrev pub IsServing : DeskState → Type 0
IsServing h = IsServingFor h.book h.is_halted

-- the result of a call: `Halted` exactly if the desk is halted or closed
abbrev pub Answer : DeskState → Result (Unit {0}) RunFault → Type 0
Answer h (Ok u) = IsServing h
Answer h (Err Halted) = IsServing h → ⊥
Answer h (Err (TurnPassed len)) = ⊥
Answer h (Err OutOfMemory) = IsServing h

-- the same at a turn, and `TurnPassed` exactly if the log is longer, with its length
abbrev pub AnswerAt : ℕ → DeskState → Result (Unit {0}) RunFault → Type 0
AnswerAt turn h (Ok u) = IsServing h × (log_len h ≡ turn)
AnswerAt turn h (Err Halted) = IsServing h → ⊥
AnswerAt turn h (Err (TurnPassed len)) = IsServing h × (len ≡ log_len h) × (turn < len)
AnswerAt turn h (Err OutOfMemory) = IsServing h × (log_len h ≡ turn)
