-- What the program leaves, and its exit status.
use Rattle.std.specs.Prelude.{◌≡◌, ◌≢◌, ◌⊎◌, ℕ, List, [], Option, Some, Bool, true, false, Result, Ok, Err}
use Rattle.clap.specs.Words.{Text, fault_of}
use Rattle.program_io.specs.declared.arguments.LineFault.TheVariants.{Bad, OutOfMemory}
use Rattle.replay_main.specs.declared.fault.ReplayFault.TheVariants as replay
use Rattle.replay_main.specs.declared.program.ProgramFault.{ProgramFault}
use Rattle.replay_main.specs.declared.program.ProgramFault.TheVariants.{Line, Replay}
use Rattle.trace_talk.specs.declared.summary.Summary.{Summary}
use Rattle.replay_main.specs.ReplayArguments.{AsksHelp, AsksReplay, app, rehearsal_in, workers_in}
use Rattle.program_io.specs.Device.{IsUnread, IsUnwritten, TakesFront}
use Rattle.replay_main.specs.Replayed.{IsWholeReplay, Replayed}

-- the command line asks for help; nothing was read, and a whole text was written and flushed
pub record IsReplayHelp (words : List Text) (left rest : Option (List ℕ)) (read_failed : Bool) (before after : Option (List ℕ)) (write_failed flushed : Bool) : Type 0 where
  pub called : AsksHelp words
  pub unread : IsUnread left rest read_failed
  pub text : List ℕ
  pub written : TakesFront before text [] after
  pub good_writes : write_failed ≡ false
  pub is_out : flushed ≡ true

-- the command line asks for a replay or a rehearsal: it has no fault, and gives a number of workers
pub record CallsReplay (words : List Text) : Type 0 where
  pub no_fault : fault_of app words ≡ []
  pub workers : ℕ
  pub number : workers_in words ≡ Some workers

-- the command line asks for a replay or a rehearsal, and the whole trace was answered
pub record IsReplayed (words : List Text) (left before after : Option (List ℕ)) (read_failed write_failed flushed : Bool) : Type 0 where
  pub called : CallsReplay words
  pub summary : Summary
  pub whole : IsWholeReplay left before after read_failed write_failed flushed summary

-- by the words of the command line, what the program leaves of a source that had `left` and of a sink that had `before`, and why it ended before its end; a rehearsal closes no desk, and neither does one worker
abbrev pub EndsReplay : List Text → Option (List ℕ) → Option (List ℕ) → Bool → Option (List ℕ) → Option (List ℕ) → Bool → Bool → Result (Unit {0}) ProgramFault → Type 0
EndsReplay words left rest read_failed before after write_failed flushed (Ok u) =
    IsReplayed words left before after read_failed write_failed flushed
    ⊎ IsReplayHelp words left rest read_failed before after write_failed flushed
EndsReplay words left rest read_failed before after write_failed flushed (Err (Line fault)) =
    AsksReplay words (Err fault) × IsUnread left rest read_failed × IsUnwritten before after write_failed
EndsReplay words left rest read_failed before after write_failed flushed (Err (Replay fault)) =
    (CallsReplay words × Replayed left read_failed before after write_failed flushed (Err fault) × (rehearsal_in words ≡ true → fault ≢ replay.Close) × (workers_in words ≡ Some 1 → fault ≢ replay.Close))
    ⊎ (AsksHelp words × IsUnread left rest read_failed × (fault ≡ replay.Write) × (write_failed ≡ true))

-- 0 on success, 2 on a bad command line, and 1 on any other fault
abbrev pub status_of : Result (Unit {0}) ProgramFault → ℕ
status_of (Ok u) = 0
status_of (Err (Line Bad)) = 2
status_of (Err (Line OutOfMemory)) = 1
status_of (Err (Replay replay.Read)) = 1
status_of (Err (Replay replay.Write)) = 1
status_of (Err (Replay replay.InputTooLong)) = 1
status_of (Err (Replay replay.OutOfMemory)) = 1
status_of (Err (Replay replay.Close)) = 1
