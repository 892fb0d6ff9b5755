-- What the program leaves, and its exit status.
use Rattle.std.specs.Prelude.{◌≡◌, ◌⊎◌, ℕ, List, [], Option, Bool, true, false, Result, Ok, Err}
use Rattle.clap.specs.Words.{Text, fault_of}
use Rattle.program_io.specs.declared.arguments.LineFault.TheVariants.{Bad, OutOfMemory}
use Rattle.trace_talk.specs.declared.summary.Summary.{Summary}
use Rattle.program_io.specs.Device.{IsUnread, IsUnwritten, TakesFront}
use Rattle.shell_main.specs.declared.fault.ShellFault.TheVariants as shell
use Rattle.shell_main.specs.declared.program.ProgramFault.{ProgramFault}
use Rattle.shell_main.specs.declared.program.ProgramFault.TheVariants.{Line, Shell, Open, ClosedPipe}
use Rattle.shell_main.specs.ShellArguments.{AsksShell, RequestsText, app, options_in}
use Rattle.shell_main.specs.Devices.{SinkState, SourceState}
use Rattle.shell_main.specs.Shelled.{ShelledBy}

-- help or the version is requested; nothing was read, and all of a text was written and flushed
pub record IsShellHelp (words : List Text) (start : Option (List ℕ)) (source : SourceState) (before : Option (List ℕ)) (sink : SinkState) : Type 0 where
  pub called : RequestsText words
  pub unread : IsUnread start source.left source.failed
  pub text : List ℕ
  pub written : TakesFront before text [] sink.taken
  pub good_writes : sink.failed ≡ false
  pub is_out : sink.flushed ≡ true

-- a shell is requested, with these options, and it ran to the end
pub record IsShelled (words : List Text) (start : Option (List ℕ)) (source : SourceState) (before : Option (List ℕ)) (sink : SinkState) : Type 0 where
  pub no_fault : fault_of app words ≡ []
  pub summary : Summary
  pub served : ShelledBy (options_in words) start source before sink (Ok summary)

-- by the words of the command line: what the program leaves of a source that had `start` and of a sink that had `before`, and why it ended early
abbrev pub EndsShell : List Text → Option (List ℕ) → SourceState → Option (List ℕ) → SinkState → Result (Unit {0}) ProgramFault → Type 0
EndsShell words start source before sink (Ok u) = IsShelled words start source before sink ⊎ IsShellHelp words start source before sink
EndsShell words start source before sink (Err (Line fault)) = AsksShell words (Err fault) × IsUnread start source.left source.failed × IsUnwritten before sink.taken sink.failed
EndsShell words start source before sink (Err (Shell fault)) =
    ((fault_of app words ≡ []) × ShelledBy (options_in words) start source before sink (Err fault))
    ⊎ (RequestsText words × IsUnread start source.left source.failed × (fault ≡ shell.Write) × (sink.failed ≡ true))
EndsShell words start source before sink (Err Open) = ⊥
EndsShell words start source before sink (Err ClosedPipe) = ⊥

-- a failed write to a closed pipe is a separate fault
abbrev pub told_apart : Bool → Result (Unit {0}) ProgramFault → Result (Unit {0}) ProgramFault
told_apart true (Err (Shell shell.Write)) = Err ClosedPipe
told_apart true outcome = outcome
told_apart false outcome = outcome

-- 0 if everything was done, 2 for a bad command line, 141 for a closed pipe (128 and the number of SIGPIPE), and 1 for any other fault
abbrev pub status_of : Result (Unit {0}) ProgramFault → ℕ
status_of (Ok u) = 0
status_of (Err (Line Bad)) = 2
status_of (Err (Line OutOfMemory)) = 1
status_of (Err (Shell shell.Read)) = 1
status_of (Err (Shell shell.Write)) = 1
status_of (Err (Shell shell.InputTooLong)) = 1
status_of (Err (Shell shell.OutOfMemory)) = 1
status_of (Err (Shell shell.NotACommand)) = 1
status_of (Err Open) = 1
status_of (Err ClosedPipe) = 141
