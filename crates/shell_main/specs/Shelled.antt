-- What a shell leaves.
use Rattle.std.specs.Prelude.{◌≡◌, ◌⊎◌, ℕ, ◌<◌, ◌≤◌, Bool, true, false, List, [], ◌∷◌, ◌++◌, length, Option, Some, None, Result, Ok, Err}
use Rattle.std.specs.Io.KnownBytes.{Consumes}
use Rattle.flat_model.specs.Replies.{command_count, is_fault}
use Rattle.flat_model.specs.Trace.{read_line, read_trace, trace_max}
use Rattle.trace_talk.specs.declared.summary.Summary.{Summary}
use Rattle.program_io.specs.Device.{IsInput, TakesFront}
use Rattle.trace_talk.specs.Points.{number_max}
use Rattle.shell_main.specs.declared.fault.ShellFault.{ShellFault}
use Rattle.shell_main.specs.declared.fault.ShellFault.TheVariants.{Read, Write, InputTooLong, OutOfMemory, NotACommand}
use Rattle.shell_main.specs.declared.options.Options.{Options}
use Rattle.shell_main.specs.Devices.{SinkState, SourceState}
use Rattle.shell_main.specs.Forgetful.{output_of, refused_of}
use Rattle.shell_main.specs.WholeLines.{HasCommandsOnly, HasNoFeed, HasShortLines, IsClean, IsCleanBeforeLast, ends_line}

-- the known bytes begin with these
abbrev pub BeginsWith : Option (List ℕ) → List ℕ → Type 0
BeginsWith None front = Unit {0}
BeginsWith (Some bytes) front = (rest : List ℕ) × (bytes ≡ front ++ rest)

-- Nothing is owed: these whole lines, then a line that has not ended, are all that was read of a source that had `start` and has `left`; exactly the output for the whole lines was written and flushed.
pub record NothingOwed (history : Bool) (start left before : Option (List ℕ)) (sink : SinkState) (lines line : List ℕ) : Type 0 where
  pub whole : ends_line lines ≡ true
  pub short : HasShortLines lines
  pub unended : HasNoFeed line
  pub read : Consumes start left (lines ++ line)
  pub written : TakesFront before (output_of history lines) [] sink.taken
  pub good : sink.failed ≡ false
  pub is_out : sink.flushed ≡ true

-- The source was read to its end, and exactly the output for all of it was written and flushed.
pub record IsServed (history : Bool) (start : Option (List ℕ)) (source : SourceState) (before : Option (List ℕ)) (sink : SinkState) (summary : Summary) : Type 0 where
  pub trace : List ℕ
  pub is_input : IsInput start trace
  pub short : HasShortLines trace
  pub written : TakesFront before (output_of history trace) [] sink.taken
  pub commands : summary.commands ≡ command_count (read_trace trace)
  pub refused : summary.refused ≡ refused_of history trace
  pub good_reads : source.failed ≡ false
  pub good_writes : sink.failed ≡ false
  pub is_out : sink.flushed ≡ true

-- No device failed; these whole lines are at the front of what the source had, and exactly their output was written and flushed.
pub record IsStopped (history : Bool) (start : Option (List ℕ)) (source : SourceState) (before : Option (List ℕ)) (sink : SinkState) (lines : List ℕ) : Type 0 where
  pub whole : ends_line lines ≡ true
  pub short : HasShortLines lines
  pub is_front : BeginsWith start lines
  pub written : TakesFront before (output_of history lines) [] sink.taken
  pub good_reads : source.failed ≡ false
  pub good_writes : sink.failed ≡ false
  pub is_out : sink.flushed ≡ true

-- The line after these has more bytes than a line may have, or no number is left for it.
pub record IsLineTooLong (start : Option (List ℕ)) (lines line : List ℕ) : Type 0 where
  pub is_next : BeginsWith start (lines ++ line)
  pub unended : HasNoFeed line
  pub too_long : (trace_max < length line) ⊎ (number_max ≤ command_count (read_trace lines))

-- Lines at the front of what the source had, or all of it, are answered; a prefix of their output was written before a write or a flush failed, or a write took no bytes.
pub record IsBroken (history : Bool) (start : Option (List ℕ)) (source : SourceState) (before : Option (List ℕ)) (sink : SinkState) : Type 0 where
  pub lines : List ℕ
  pub whole : (ends_line lines ≡ true) ⊎ IsInput start lines
  pub short : HasShortLines lines
  pub is_front : BeginsWith start lines
  pub rest : List ℕ
  pub written : TakesFront before (output_of history lines) rest sink.taken
  pub good_reads : source.failed ≡ false
  pub bad_write : sink.failed ≡ true

-- A line with its line feed is at the front of what the source had, after these lines; or it is the last and has none.
abbrev pub IsNextLine : Option (List ℕ) → List ℕ → List ℕ → List ℕ → Type 0
IsNextLine start lines line text = ((text ≡ lines ++ (line ++ 0x0A ∷ [])) × BeginsWith start text) ⊎ ((text ≡ lines ++ line) × IsInput start text)

-- No device failed; the source has whole lines without a fault at its front, then a line that is not a command. Exactly the output for these was written and flushed.
pub record IsBarred (history : Bool) (start : Option (List ℕ)) (source : SourceState) (before : Option (List ℕ)) (sink : SinkState) : Type 0 where
  pub lines : List ℕ
  pub line : List ℕ
  pub text : List ℕ
  pub whole : ends_line lines ≡ true
  pub unended : HasNoFeed line
  pub is_next : IsNextLine start lines line text
  pub clean : HasCommandsOnly lines
  pub fault : is_fault (read_line line) ≡ true
  pub short : HasShortLines text
  pub written : TakesFront before (output_of history text) [] sink.taken
  pub good_reads : source.failed ≡ false
  pub good_writes : sink.failed ≡ false
  pub is_out : sink.flushed ≡ true

-- What a shell leaves, with a history or without, by its result: the source had `start` and the sink had `before`, and now they are in these states.
abbrev pub Shelled : Bool → Option (List ℕ) → SourceState → Option (List ℕ) → SinkState → Result Summary ShellFault → Type 0
Shelled history start source before sink (Ok summary) = IsServed history start source before sink summary
Shelled history start source before sink (Err Read) = (source.failed ≡ true) × ((lines line : List ℕ) × NothingOwed history start source.left before sink lines line)
Shelled history start source before sink (Err Write) = IsBroken history start source before sink
Shelled history start source before sink (Err InputTooLong) = (lines line : List ℕ) × (IsStopped history start source before sink lines × IsLineTooLong start lines line)
Shelled history start source before sink (Err OutOfMemory) = (lines : List ℕ) × IsStopped history start source before sink lines
Shelled history start source before sink (Err NotACommand) = ⊥

-- What a shell with these options leaves. A strict shell stops after the first line that is not a command, so there is none in what it answered before. If a write fails, such a line may be the last that was answered.
abbrev pub ShelledBy : Options → Option (List ℕ) → SourceState → Option (List ℕ) → SinkState → Result Summary ShellFault → Type 0
ShelledBy how start source before sink (Ok summary) = (served : IsServed how.keeps_history start source before sink summary) × IsClean how.is_strict served.trace
ShelledBy how start source before sink (Err Read) = (source.failed ≡ true)
    × ((lines line : List ℕ) × NothingOwed how.keeps_history start source.left before sink lines line × IsClean how.is_strict lines)
ShelledBy how start source before sink (Err Write) = (broken : IsBroken how.keeps_history start source before sink) × IsCleanBeforeLast how.is_strict broken.lines
ShelledBy how start source before sink (Err InputTooLong) = (lines line : List ℕ)
    × (IsStopped how.keeps_history start source before sink lines × IsLineTooLong start lines line × IsClean how.is_strict lines)
ShelledBy how start source before sink (Err OutOfMemory) = (lines : List ℕ) × (IsStopped how.keeps_history start source before sink lines × IsClean how.is_strict lines)
ShelledBy how start source before sink (Err NotACommand) = (how.is_strict ≡ true) × IsBarred how.keeps_history start source before sink
