-- What a replay answers and leaves.
use Rattle.std.specs.Prelude.{◌≡◌, ℕ, ◌≤◌, List, [], length, Option, Some, None, Bool, true, false, Result, Ok, Err}
use Rattle.flat_model.specs.Replies.{command_count, refused_count, answers}
use Rattle.flat_model.specs.Trace.{trace_max, read_trace}
use Rattle.sessions.specs.SessionMeaning.{slots}
use Rattle.replay_main.specs.declared.fault.ReplayFault.{ReplayFault}
use Rattle.replay_main.specs.declared.fault.ReplayFault.TheVariants.{Read, Write, InputTooLong, OutOfMemory, Close}
use Rattle.trace_talk.specs.declared.summary.Summary.{Summary}
use Rattle.program_io.specs.Device.{IsInput, IsUnwritten, TakesFront}
use Rattle.replay_main.specs.WholeInput.{IsTooLong}

-- a fault of the work between reading and writing
abbrev pub EndsWork : ReplayFault → Type 0
EndsWork Read = ⊥
EndsWork Write = ⊥
EndsWork InputTooLong = ⊥
EndsWork OutOfMemory = Unit {0}
EndsWork Close = Unit {0}

-- the two numbers are those of the trace: its numbered lines, and those answered `refused`
pub record IsSummary (trace : List ℕ) (summary : Summary) : Type 0 where
  pub commands : summary.commands ≡ command_count (read_trace trace)
  pub refused : summary.refused ≡ refused_count slots (read_trace trace)

-- the bytes answer the trace
pub record IsAnswered (trace bytes : List ℕ) (summary : Summary) : Type 0 where
  pub bytes_are : bytes ≡ answers slots trace
  pub counts : IsSummary trace summary

-- The trace was read whole, and exactly its answers were written and flushed.
pub record IsWholeReplay (left before after : Option (List ℕ)) (read_failed write_failed flushed : Bool) (summary : Summary) : Type 0 where
  pub trace : List ℕ
  pub is_input : IsInput left trace
  pub short : length trace ≤ trace_max
  pub written : TakesFront before (answers slots trace) [] after
  pub counts : IsSummary trace summary
  pub good_reads : read_failed ≡ false
  pub good_writes : write_failed ≡ false
  pub is_out : flushed ≡ true

-- The trace was read whole, and a prefix of its answers was written before a write or the flush failed, or a write took no bytes.
pub record IsCut (left before after : Option (List ℕ)) (read_failed write_failed : Bool) : Type 0 where
  pub trace : List ℕ
  pub is_input : IsInput left trace
  pub short : length trace ≤ trace_max
  pub rest : List ℕ
  pub written : TakesFront before (answers slots trace) rest after
  pub good_reads : read_failed ≡ false
  pub bad_write : write_failed ≡ true

-- the source had no more bytes than a trace may have, if it exposes them
abbrev pub IsShort : Option (List ℕ) → Type 0
IsShort None = Unit {0}
IsShort (Some left) = length left ≤ trace_max

-- What a replay leaves, by its result: the source had these bytes left, and the marks are these.
abbrev pub Replayed : Option (List ℕ) → Bool → Option (List ℕ) → Option (List ℕ) → Bool → Bool → Result Summary ReplayFault → Type 0
Replayed left read_failed before after write_failed flushed (Ok summary) = IsWholeReplay left before after read_failed write_failed flushed summary
Replayed left read_failed before after write_failed flushed (Err Write) = IsCut left before after read_failed write_failed
Replayed left read_failed before after write_failed flushed (Err Read) = (read_failed ≡ true) × IsUnwritten before after write_failed
Replayed left read_failed before after write_failed flushed (Err InputTooLong) = IsTooLong left × (read_failed ≡ false) × IsUnwritten before after write_failed
Replayed left read_failed before after write_failed flushed (Err OutOfMemory) = (read_failed ≡ false) × IsUnwritten before after write_failed
Replayed left read_failed before after write_failed flushed (Err Close) = IsShort left × (read_failed ≡ false) × IsUnwritten before after write_failed
