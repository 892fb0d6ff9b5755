-- What a command line asks for, by the kinds of fault that `clap` finds in its words (none, a call for help, or another), by what stands at `--workers` and `--rehearse`, and by the first cluster of flags, as `-hx`.
use Rattle.std.specs.Prelude.{◌≡◌, ◌≢◌, ◌≤◌, ◌-◌, ◌&&◌, ◌⊎◌, ℕ, Bool, true, false, nat_lt, if◌then◌else◌, List, [], ◌∷◌, codes, Option, Some, None, Result, Ok, Err}
use Rattle.std.specs.Str.{bytes_eq}
use Rattle.clap.specs.Words.{App, IsAmong, Rule, Text, fault_of, first_of, matches_of, new_app, new_rule, with_rule}
use Rattle.clap.specs.declared.builder.action.ArgAction.TheVariants.{SetTrue}
use Rattle.clap.specs.declared.error.kind.ErrorKind.{ErrorKind}
use Rattle.clap.specs.declared.error.kind.ErrorKind.TheVariants as kind
use Rattle.replay_main.specs.declared.arguments.Ask.{Ask}
use Rattle.replay_main.specs.declared.arguments.Ask.TheVariants.{Run, Help}
use Rattle.program_io.specs.declared.arguments.LineFault.{LineFault}
use Rattle.program_io.specs.declared.arguments.LineFault.TheVariants.{Bad, OutOfMemory}
use Rattle.program_io.specs.Clusters.{cluster_first}

-- `--workers N`; its value has a name in the help text
abbrev pub workers_rule : Rule
workers_rule = record (new_rule (codes "workers")) { long = Some (codes "workers"); value_names = 1 }

-- `--rehearse`, which takes no value: the flag's value is `true` if it is among the words
abbrev pub rehearse_rule : Rule
rehearse_rule = record (new_rule (codes "rehearse")) { long = Some (codes "rehearse"); action = Some SetTrue }

-- the program takes no arguments but these and the calls for help, and its own name is not among the words
abbrev pub app : App
app = with_rule (with_rule (record { top = record (new_app (codes "cgreplay")).top { no_binary_name = true }; subs = (new_app (codes "cgreplay")).subs }) workers_rule) rehearse_rule

-- a digit from 1 to 8
abbrev pub digit_said : Text → Option ℕ
digit_said [] = None
digit_said (d ∷ []) = if nat_lt 48 d && nat_lt d 57 then Some (d - 48) else None
digit_said (d ∷ e ∷ text) = None

-- the number of workers, by the value of `--workers`: 1 by default
abbrev pub workers_said : Option Text → Option ℕ
workers_said None = Some 1
workers_said (Some text) = digit_said text

-- the number of workers that words without a fault ask for, if they ask for one
abbrev pub workers_in : List Text → Option ℕ
workers_in words = workers_said (first_of (codes "workers") (matches_of app words))

-- a rehearsal is asked for, by the value of `--rehearse`
abbrev pub rehearsal_said : Option Text → Bool
rehearsal_said None = false
rehearsal_said (Some text) = bytes_eq text (codes "true")

-- words without a fault ask for a rehearsal
abbrev pub rehearsal_in : List Text → Bool
rehearsal_in words = rehearsal_said (first_of (codes "rehearse") (matches_of app words))

-- help is asked for, by a word of its own: `clap` also takes a cluster of flags, as `-hx`, for a call for help
abbrev pub AsksHelp : List Text → Type 0
AsksHelp words = IsAmong kind.DisplayHelp (fault_of app words) × (cluster_first words ≡ false)

-- some kind of fault is not such a call, or is one only by a cluster of flags
abbrev pub HasFault : List Text → Type 0
HasFault words = (k : ErrorKind) × IsAmong k (fault_of app words) × ((k ≢ kind.DisplayHelp) ⊎ (cluster_first words ≡ true))

-- a run if there is no fault and 1 to 8 workers are asked for; help if it is asked for; a bad line on another fault or another number
abbrev pub AsksReplay : List Text → Result Ask LineFault → Type 0
AsksReplay words (Ok (Run workers rehearse)) = (fault_of app words ≡ []) × (workers_in words ≡ Some workers) × (1 ≤ workers) × (workers ≤ 8) × (rehearse ≡ rehearsal_in words)
AsksReplay words (Ok (Help text)) = AsksHelp words
AsksReplay words (Err Bad) = HasFault words ⊎ ((fault_of app words ≡ []) × (workers_in words ≡ None))
AsksReplay words (Err OutOfMemory) = Unit {0}

-- the result for an error of this kind, by whether a cluster comes first
abbrev pub AsksReplayBy : Bool → ErrorKind → Result Ask LineFault → Type 0
AsksReplayBy clustered k (Ok (Run workers rehearse)) = ⊥
AsksReplayBy clustered k (Ok (Help text)) = (k ≡ kind.DisplayHelp) × (clustered ≡ false)
AsksReplayBy clustered k (Err Bad) = ((k ≢ kind.DisplayHelp) ⊎ (clustered ≡ true)) × (k ≢ kind.OutOfMemory)
AsksReplayBy clustered k (Err OutOfMemory) = Unit {0}
