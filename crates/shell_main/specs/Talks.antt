-- A talk: what one line, some lines, one read, and all reads so far leave.
use Rattle.std.specs.Prelude.{◌≡◌, ◌⊎◌, ℕ, ◌<◌, ◌≤◌, Bool, true, false, List, [], ◌∷◌, ◌++◌, length, Option, Result, Ok, Err}
use Rattle.std.specs.Io.KnownBytes.{Consumes}
use Rattle.flat_model.specs.Replies.{is_fault}
use Rattle.flat_model.specs.Trace.{Line, read_line, read_trace, trace_max}
use Rattle.program_io.specs.Device.{TakesFront}
use Rattle.shell_main.specs.declared.fault.ShellFault.{ShellFault}
use Rattle.shell_main.specs.declared.fault.ShellFault.TheVariants.{Read, Write, InputTooLong, OutOfMemory, NotACommand}
use Rattle.shell_main.specs.declared.options.Options.{Options}
use Rattle.shell_main.specs.Devices.{SinkState, SourceState}
use Rattle.shell_main.specs.Forgetful.{after_by, answers_by, output_of, remembered}
use Rattle.trace_talk.specs.Points.{Point, answers_on, number_max, point_after, start_point, summary_of}
use Rattle.shell_main.specs.Shelled.{ShelledBy}
use Rattle.shell_main.specs.WholeLines.{HasNoFeed, HasShortLines, IsClean, IsCleanBeforeLast, ends_line}

-- ---- one line

-- a strict shell continues after this line; any other shell does after every line
abbrev pub IsPassed : Bool → Line → Type 0
IsPassed false line = Unit {0}
IsPassed true line = is_fault line ≡ false

-- one line is answered, and its output is appended; otherwise nothing is appended, but for the line at which a strict shell stops
abbrev pub AnswersShellLine : Options → Point → Line → List ℕ → List ℕ → Result (Unit {0}) ShellFault → Point → Type 0
AnswersShellLine how old line before after (Ok u) new = (new ≡ remembered how.keeps_history (point_after old (line ∷ []))) × (after ≡ before ++ answers_on old (line ∷ [])) × IsPassed how.is_strict line
AnswersShellLine how old line before after (Err NotACommand) new = (how.is_strict ≡ true) × (is_fault line ≡ true) × (after ≡ before ++ answers_on old (line ∷ []))
AnswersShellLine how old line before after (Err InputTooLong) new = (number_max ≤ old.commands) × (after ≡ before) × (new ≡ old)
AnswersShellLine how old line before after (Err OutOfMemory) new = after ≡ before
AnswersShellLine how old line before after (Err Read) new = ⊥
AnswersShellLine how old line before after (Err Write) new = ⊥

-- bytes are appended to a line, unless it gets too long or memory runs out
abbrev pub KeepsBytes : List ℕ → List ℕ → Result (Unit {0}) ShellFault → List ℕ → Type 0
KeepsBytes old bytes (Ok u) new = (new ≡ old ++ bytes) × (length new ≤ trace_max)
KeepsBytes old bytes (Err InputTooLong) new = trace_max < length (old ++ bytes)
KeepsBytes old bytes (Err OutOfMemory) new = Unit {0}
KeepsBytes old bytes (Err Read) new = ⊥
KeepsBytes old bytes (Err Write) new = ⊥
KeepsBytes old bytes (Err NotACommand) new = ⊥

-- a line that has not ended, and is not too long
pub record IsUnended (line : List ℕ) : Type 0 where
  pub no_feed : HasNoFeed line
  pub fits : length line ≤ trace_max

-- ---- some lines

-- Whole lines at the front of these bytes are answered, from a state to a state; `more` is after them, and `out` is their output.
pub record Answered (how : Options) (old : Point) (bytes more out : List ℕ) (new : Point) : Type 0 where
  pub text : List ℕ
  pub is_front : bytes ≡ text ++ more
  pub whole : ends_line text ≡ true
  pub short : HasShortLines text
  pub clean : IsClean how.is_strict text
  pub point : new ≡ after_by how.keeps_history old (read_trace text)
  pub output : out ≡ answers_by how.keeps_history old (read_trace text)

-- The line after those is not a command: a strict shell has answered it, and stops.
pub record IsStruck (how : Options) (old : Point) (bytes out : List ℕ) : Type 0 where
  pub line : List ℕ
  pub more : List ℕ
  pub first : List ℕ
  pub now : Point
  pub answered : Answered how old bytes (line ++ 0x0A ∷ more) first now
  pub unended : IsUnended line
  pub is_strict : how.is_strict ≡ true
  pub fault : is_fault (read_line line) ≡ true
  pub output : out ≡ first ++ answers_on now (read_line line ∷ [])

-- why no more of these bytes is answered
abbrev pub Halts : Options → Point → List ℕ → List ℕ → ShellFault → Type 0
Halts how old bytes out InputTooLong = (line more : List ℕ) × (now : Point)
    × (Answered how old bytes (line ++ more) out now × HasNoFeed line × ((trace_max < length line) ⊎ (number_max ≤ now.commands)))
Halts how old bytes out OutOfMemory = (more : List ℕ) × (now : Point) × Answered how old bytes more out now
Halts how old bytes out NotACommand = IsStruck how old bytes out
Halts how old bytes out Read = ⊥
Halts how old bytes out Write = ⊥

-- ---- their output

-- exactly this output was written to a sink that had `before`, and flushed
pub record IsOut (before : Option (List ℕ)) (out : List ℕ) (sink : SinkState) : Type 0 where
  pub written : TakesFront before out [] sink.taken
  pub good : sink.failed ≡ false
  pub is_out : sink.flushed ≡ true

-- a write or a flush failed, and a prefix of the output for whole lines at the front of these bytes was written
pub record IsCutOff (how : Options) (old : Point) (bytes : List ℕ) (before : Option (List ℕ)) (sink : SinkState) : Type 0 where
  pub text : List ℕ
  pub more : List ℕ
  pub is_front : bytes ≡ text ++ more
  pub whole : ends_line text ≡ true
  pub short : HasShortLines text
  pub clean : IsCleanBeforeLast how.is_strict text
  pub rest : List ℕ
  pub written : TakesFront before (answers_by how.keeps_history old (read_trace text)) rest sink.taken
  pub bad : sink.failed ≡ true

-- whole lines at the front of these bytes are answered, and their output is out; a line that has not ended and the rest are after them
pub record GoesOn (how : Options) (old : Point) (bytes : List ℕ) (before : Option (List ℕ)) (sink : SinkState) (new : Point) (line rest : List ℕ) : Type 0 where
  pub out : List ℕ
  pub answered : Answered how old bytes (line ++ rest) out new
  pub unended : IsUnended line
  pub is_out : IsOut before out sink

-- what a shell leaves that stops: also then the output is out, unless a write failed
abbrev pub StopsShell : Options → Point → List ℕ → Option (List ℕ) → SinkState → ShellFault → Type 0
StopsShell how old bytes before sink Write = IsCutOff how old bytes before sink
StopsShell how old bytes before sink fault = (out : List ℕ) × (Halts how old bytes out fault × IsOut before out sink)

-- the last line, which has no line feed, is answered, and its output is out
abbrev pub Finishes : Options → Point → Line → Option (List ℕ) → SinkState → Result (Unit {0}) ShellFault → Point → Type 0
Finishes how old line before sink (Ok u) new = (new ≡ remembered how.keeps_history (point_after old (line ∷ [])))
    × IsOut before (answers_on old (line ∷ [])) sink × IsPassed how.is_strict line
Finishes how old line before sink (Err NotACommand) new = (how.is_strict ≡ true) × (is_fault line ≡ true) × IsOut before (answers_on old (line ∷ [])) sink
Finishes how old line before sink (Err InputTooLong) new = (number_max ≤ old.commands) × IsOut before [] sink
Finishes how old line before sink (Err OutOfMemory) new = IsOut before [] sink
Finishes how old line before sink (Err Write) new = (sink.failed ≡ true) × ((rest : List ℕ) × TakesFront before (answers_on old (line ∷ [])) rest sink.taken)
Finishes how old line before sink (Err Read) new = ⊥

-- ---- from the start

-- These whole lines are answered, the output is flushed, and the talk is in the state after them; a line has not ended, and these are its bytes.
pub record StandsBeforeRead (how : Options) (start left before : Option (List ℕ)) (sink : SinkState) (now : Point) (lines line pending : List ℕ) : Type 0 where
  pub whole : ends_line lines ≡ true
  pub short : HasShortLines lines
  pub clean : IsClean how.is_strict lines
  pub unended : IsUnended line
  pub read : Consumes start left (lines ++ (line ++ pending))
  pub point : now ≡ after_by how.keeps_history start_point (read_trace lines)
  pub written : TakesFront before (output_of how.keeps_history lines) [] sink.taken
  pub good : sink.failed ≡ false
  pub is_out : sink.flushed ≡ true

-- what one read leaves: false if there may be more to read, otherwise what a shell leaves
abbrev pub Serves : Options → Option (List ℕ) → SourceState → Option (List ℕ) → SinkState → Result Bool ShellFault → Point → List ℕ → Type 0
Serves how start source before sink (Ok false) now line = (lines : List ℕ) × StandsBeforeRead how start source.left before sink now lines line []
Serves how start source before sink (Ok true) now line = ShelledBy how start source before sink (Ok (summary_of now))
Serves how start source before sink (Err fault) now line = ShelledBy how start source before sink (Err fault)
