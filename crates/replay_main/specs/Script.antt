-- What the lines of a trace with a number say, and their answers by the replies of a log.
use Rattle.std.specs.Prelude.{◌≡◌, ℕ, ◌+◌, ◌*◌, Bool, true, false, List, [], ◌∷◌, ◌++◌, Option, Some, None, is_some, map, take, drop, length, slice_get}
use Rattle.std.specs.List.{All, flat_map, count_by}
use Rattle.flat_model.specs.Command.{Command, Reply}
use Rattle.flat_model.specs.Log.{Entry}
use Rattle.flat_model.specs.Replies.{commands_in, fault_bytes, is_refused, reply_bytes}
use Rattle.flat_model.specs.Trace as trace
use Rattle.undo_journal.specs.CommandMeaning.{command_of}
use Rattle.trace_lines.specs.LineMeaning.{text_fault_of}
use Rattle.replay_main.specs.declared.reading.NumberedLine.{NumberedLine}
use Rattle.replay_main.specs.declared.reading.NumberedLine.TheVariants as said
use Rattle.replay_main.specs.declared.reading.Script.{Script}
use Rattle.replay_main.specs.declared.texts.Part.{Part}
use Rattle.replay_main.specs.WorkerTurns.{TakesTurns}

-- the fault on a line with a number, or none if the line is a command
abbrev pub place_in : trace.Line → List (Option trace.TextFault)
place_in trace.Skip = []
place_in (trace.Run c) = None ∷ []
place_in (trace.Fault f) = Some f ∷ []

abbrev pub places_in : List trace.Line → List (Option trace.TextFault)
places_in lines = flat_map place_in lines

abbrev pub place_of : NumberedLine → Option trace.TextFault
place_of said.Command = None
place_of (said.Fault f) = Some (text_fault_of f)

-- a script, under a name that other crates may cite
abbrev pub TraceScript : Type 0
TraceScript = Script

-- the script has the commands of the lines, and what those with a number say
pub record IsScript (script : Script) (lines : List trace.Line) : Type 0 where
  pub commands : map command_of script.commands.items ≡ commands_in lines
  pub places : map place_of script.places.items ≡ places_in lines

abbrev pub is_command : Option trace.TextFault → Bool
is_command None = true
is_command (Some f) = false

-- the answers from number n on; a command without a reply has none
abbrev pub answers_from : ℕ → List (Option trace.TextFault) → List Reply → List ℕ
answers_from n [] rs = []
answers_from n (Some f ∷ places) rs = fault_bytes n f ++ answers_from (n + 1) places rs
answers_from n (None ∷ places) [] = answers_from (n + 1) places []
answers_from n (None ∷ places) (r ∷ rs) = reply_bytes n r ++ answers_from (n + 1) places rs

-- what one worker has of a list, in runs of this size
abbrev pub run_of : {X : Type 0} → ℕ → ℕ → List X → List X
run_of size worker xs = take size (drop (worker * size) xs)

-- ---- the scripts of pieces of a trace

abbrev pub all_commands : List Script → List Command
all_commands scripts = flat_map (λ s. map command_of s.commands.items) scripts

abbrev pub all_places : List Script → List (Option trace.TextFault)
all_places scripts = flat_map (λ s. map place_of s.places.items) scripts

-- as many places are commands as the script has
abbrev pub IsCounted : Script → Type 0
IsCounted script = count_by is_command (map place_of script.places.items) ≡ length script.commands.items

-- the scripts are those of pieces of the lines, in order
pub record AreScripts (scripts : List Script) (lines : List trace.Line) : Type 0 where
  pub commands : all_commands scripts ≡ commands_in lines
  pub places : all_places scripts ≡ places_in lines
  pub counted : All IsCounted scripts

-- the entries are of these commands, and each is of the session whose turn it was, from this turn on
pub record AreLogged (workers turn : ℕ) (commands : List Command) (entries : List Entry) : Type 0 where
  pub commands_are : map (λ (e : Entry). e.command) entries ≡ commands
  pub turns : TakesTurns workers turn entries

-- the entries of a log for the commands of a script, whose first one is the log's first
abbrev pub entries_of : Script → List Entry → List Entry
entries_of script log = take (length script.commands.items) log

-- the answers to a script behind this many lines with a number, by the log from its first command's turn on
pub record IsPart (workers lines turn : ℕ) (script : Script) (log : List Entry) (part : Part) : Type 0 where
  pub bytes : part.bytes.items ≡ answers_from (lines + 1) (map place_of script.places.items) (map (λ (e : Entry). e.reply) (entries_of script log))
  pub refused : part.refused ≡ count_by is_some (map place_of script.places.items) + count_by is_refused (map (λ (e : Entry). e.reply) (entries_of script log))
  pub logged : part.is_logged ≡ true → AreLogged workers turn (map command_of script.commands.items) (entries_of script log)

-- the answers to the script at this index, behind the scripts before it, by the whole log
abbrev pub IsPartAt : ℕ → List Script → List Entry → Part → Type 0
IsPartAt at scripts log part =
    let before = take at scripts in
    let turn = length (all_commands before) in
    (script : Script) × (slice_get scripts at ≡ Some script) × IsPart (length scripts) (length (all_places before)) turn script (drop turn log) part
