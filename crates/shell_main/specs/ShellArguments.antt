-- What a command line requests, by the kind of fault that `clap` finds in its words (none, a request for help or the
-- version, or another), by what stands for FILE, at `--strict` and at `--no-undo`, and by the first cluster of flags, as `-hV`.
use Rattle.std.specs.Prelude.{◌≡◌, ◌≢◌, ◌⊎◌, Bool, true, false, not, List, [], codes, Option, Some, None, option_map, Result, Ok, Err}
use Rattle.std.specs.Str.{bytes_eq}
use Rattle.clap.specs.Words.{App, IsAmong, Rule, Text, fault_of, first_of, matches_of, new_app, new_rule, with_rule}
use Rattle.clap.specs.declared.builder.action.ArgAction.TheVariants.{SetTrue}
use Rattle.clap.specs.declared.error.kind.ErrorKind.{ErrorKind}
use Rattle.clap.specs.declared.error.kind.ErrorKind.TheVariants as kind
use Rattle.program_io.specs.declared.arguments.LineFault.{LineFault}
use Rattle.program_io.specs.declared.arguments.LineFault.TheVariants.{Bad, OutOfMemory}
use Rattle.program_io.specs.Clusters.{cluster_first}
use Rattle.shell_main.specs.declared.options.Options.{Options}
use Rattle.shell_main.specs.declared.arguments.Ask.{Ask}
use Rattle.shell_main.specs.declared.arguments.Ask.TheVariants.{Serve, Help, Version}

-- the name of a file
abbrev pub file_rule : Rule
file_rule = new_rule (codes "FILE")

-- `--strict`, which takes no value: the flag's value is `true` if it is among the words
abbrev pub strict_rule : Rule
strict_rule = record (new_rule (codes "strict")) { long = Some (codes "strict"); action = Some SetTrue }

-- `--no-undo`, which takes none either
abbrev pub no_undo_rule : Rule
no_undo_rule = record (new_rule (codes "no-undo")) { long = Some (codes "no-undo"); action = Some SetTrue }

-- the program takes no arguments but these and the requests for help and the version, and its own name is not among the words
abbrev pub app : App
app = with_rule (with_rule (with_rule (record {
  top = record (new_app (codes "cgshell")).top { has_version = true; no_binary_name = true };
  subs = (new_app (codes "cgshell")).subs;
}) file_rule) strict_rule) no_undo_rule

-- the file that words without a fault name, if they name one
abbrev pub file_in : List Text → Option Text
file_in words = first_of (codes "FILE") (matches_of app words)

-- a flag is given, by its value
abbrev pub flag_said : Option Text → Bool
flag_said None = false
flag_said (Some text) = bytes_eq text (codes "true")

-- words without a fault request a strict shell; and one without a history
abbrev pub strict_in : List Text → Bool
strict_in words = flag_said (first_of (codes "strict") (matches_of app words))

abbrev pub no_undo_in : List Text → Bool
no_undo_in words = flag_said (first_of (codes "no-undo") (matches_of app words))

-- the options of the shell that words without a fault request
abbrev pub options_in : List Text → Options
options_in words = record { is_strict = strict_in words; keeps_history = not (no_undo_in words) }

-- this kind of fault requests a text, by a word of its own: `clap` also takes a cluster of flags, as `-hV`, for a request
abbrev pub Requests : ErrorKind → List Text → Type 0
Requests k words = IsAmong k (fault_of app words) × (cluster_first words ≡ false)

-- help or the version is requested
abbrev pub RequestsText : List Text → Type 0
RequestsText words = Requests kind.DisplayHelp words ⊎ Requests kind.DisplayVersion words

-- some kind of fault is not such a request, or is one only by a cluster of flags
pub record IsBad (words : List Text) : Type 0 where
  pub fault : ErrorKind
  pub is_found : IsAmong fault (fault_of app words)
  pub is_none : ((fault ≢ kind.DisplayHelp) × (fault ≢ kind.DisplayVersion)) ⊎ (cluster_first words ≡ true)

-- a shell if there is no fault, help or the version if it is requested, and a bad line for any other fault
abbrev pub AsksShell : List Text → Result Ask LineFault → Type 0
AsksShell words (Ok (Serve file options)) = (fault_of app words ≡ []) × (option_map (λ text. text.now) file ≡ file_in words) × (options ≡ options_in words)
AsksShell words (Ok (Help text)) = Requests kind.DisplayHelp words
AsksShell words (Ok (Version text)) = Requests kind.DisplayVersion words
AsksShell words (Err Bad) = IsBad words
AsksShell words (Err OutOfMemory) = Unit {0}

-- the file that is named: by words without a fault, if they name one; help and the version need none
abbrev pub Names : List Text → Option Text → Type 0
Names words name = ((fault_of app words ≡ []) × (name ≡ file_in words)) ⊎ (RequestsText words × (name ≡ None))

-- the result for an error of this kind, by whether a cluster comes first
abbrev pub AsksShellBy : Bool → ErrorKind → Result Ask LineFault → Type 0
AsksShellBy clustered k (Ok (Serve file options)) = ⊥
AsksShellBy clustered k (Ok (Help text)) = (k ≡ kind.DisplayHelp) × (clustered ≡ false)
AsksShellBy clustered k (Ok (Version text)) = (k ≡ kind.DisplayVersion) × (clustered ≡ false)
AsksShellBy clustered k (Err Bad) = (((k ≢ kind.DisplayHelp) × (k ≢ kind.DisplayVersion)) ⊎ (clustered ≡ true)) × (k ≢ kind.OutOfMemory)
AsksShellBy clustered k (Err OutOfMemory) = Unit {0}
