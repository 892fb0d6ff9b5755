-- By what the words of a command line say: what the program leaves, and how it ends.
use Rattle.std.proofs.Common.{◌≡◌, ◌≢◌, ◌⊎◌, ◌↔◌, ◌++◌, ℕ, Bool, true, false, List, [], ◌∷◌, Option, Some, None, Result, Ok, Err, refl, sym, ap, ◌∙◌, inl, inr, append-nil, subst}
use Rattle.clap.specs.Words.{IsAmong, Text, fault_of}
use Rattle.clap.specs.declared.error.kind.ErrorKind.{ErrorKind}
use Rattle.clap.specs.declared.error.kind.ErrorKind.TheVariants as kind
use Rattle.program_io.specs.Clusters.{cluster_first}
use Rattle.program_io.specs.Device.{TakesFront}
use Rattle.program_io.specs.declared.arguments.LineFault.TheVariants as line
use Rattle.shell_main.specs.declared.fault.ShellFault.TheVariants as fault
use Rattle.shell_main.specs.declared.program.ProgramFault.{ProgramFault}
use Rattle.shell_main.specs.declared.program.ProgramFault.TheVariants as program
use Rattle.shell_main.specs.Devices.{SinkState, SourceState}
use Rattle.shell_main.specs.Forgetful.{output_of}
use Rattle.shell_main.specs.Program.{EndsShell, IsShelled, status_of, told_apart}
use Rattle.shell_main.specs.ShellArguments.{IsBad, Names, RequestsText, app, file_in, options_in}

-- ---- lines without a fault, calls for a text, and others

pub not_bad : (words : List Text) → fault_of app words ≡ [] → IsBad words → ⊥
not_bad words e h = subst (λ ks. IsAmong h.fault ks) e h.is_found

-- the only kind of fault is this one
among_one : (k only : ErrorKind) → IsAmong k (only ∷ []) → k ≡ only
among_one k only (inl e) = e
among_one k only (inr x) = absurd x

-- a word of its own, and not a cluster, requests help or the version
no_cluster : (words : List Text) → cluster_first words ≡ false → cluster_first words ≡ true → ⊥
no_cluster words f t = let e : false ≡ true = sym f ∙ t in cc

help_or_not : (words : List Text) (k : ErrorKind) → cluster_first words ≡ false → k ≡ kind.DisplayHelp
    → ((k ≢ kind.DisplayHelp) × (k ≢ kind.DisplayVersion)) ⊎ (cluster_first words ≡ true) → ⊥
help_or_not words k f is (inl n) = n.0 is
help_or_not words k f is (inr t) = no_cluster words f t

version_or_not : (words : List Text) (k : ErrorKind) → cluster_first words ≡ false → k ≡ kind.DisplayVersion
    → ((k ≢ kind.DisplayHelp) × (k ≢ kind.DisplayVersion)) ⊎ (cluster_first words ≡ true) → ⊥
version_or_not words k f is (inl n) = n.1 is
version_or_not words k f is (inr t) = no_cluster words f t

pub help_not_bad : (words : List Text) → fault_of app words ≡ kind.DisplayHelp ∷ [] → cluster_first words ≡ false → IsBad words → ⊥
help_not_bad words e f h = help_or_not words h.fault f (among_one h.fault kind.DisplayHelp (subst (λ ks. IsAmong h.fault ks) e h.is_found)) h.is_none

pub version_not_bad : (words : List Text) → fault_of app words ≡ kind.DisplayVersion ∷ [] → cluster_first words ≡ false → IsBad words → ⊥
version_not_bad words e f h = version_or_not words h.fault f (among_one h.fault kind.DisplayVersion (subst (λ ks. IsAmong h.fault ks) e h.is_found)) h.is_none

no_text : (words : List Text) → fault_of app words ≡ [] → RequestsText words → ⊥
no_text words e (inl h) = subst (λ ks. IsAmong kind.DisplayHelp ks) e h.0
no_text words e (inr h) = subst (λ ks. IsAmong kind.DisplayVersion ks) e h.0

pub unknown_no_text : (words : List Text) → fault_of app words ≡ kind.UnknownArgument ∷ [] → RequestsText words → ⊥
unknown_no_text words e (inl h) = let is = among_one kind.DisplayHelp kind.UnknownArgument (subst (λ ks. IsAmong kind.DisplayHelp ks) e h.0) in cc
unknown_no_text words e (inr h) = let is = among_one kind.DisplayVersion kind.UnknownArgument (subst (λ ks. IsAmong kind.DisplayVersion ks) e h.0) in cc

-- a cluster requests no text
pub cluster_no_text : (words : List Text) → cluster_first words ≡ true → RequestsText words → ⊥
cluster_no_text words t (inl h) = no_cluster words h.1 t
cluster_no_text words t (inr h) = no_cluster words h.1 t

none_is_not_some : (k : ErrorKind) (ks : List ErrorKind) → [] ≡ k ∷ ks → ⊥
none_is_not_some k ks e = cc

-- ---- the file that is named

named_by : (words : List Text) (name : Option Text) → fault_of app words ≡ [] → Names words name → name ≡ file_in words
named_by words name e (inl h) = h.1
named_by words name e (inr h) = absurd (no_text words e h.0)

pub named_is : (words : List Text) (name is : Option Text) → fault_of app words ≡ [] → file_in words ≡ is → Names words name ↔ (name ≡ is)
named_is words name is e f = (λ h. named_by words name e h ∙ f, λ n. inl (e, n ∙ sym f))

unnamed_by : (words : List Text) (name : Option Text) (k : ErrorKind) → fault_of app words ≡ k ∷ [] → Names words name → name ≡ None
unnamed_by words name k e (inl h) = absurd (none_is_not_some k [] (sym h.0 ∙ e))
unnamed_by words name k e (inr h) = h.1

pub help_names_none : (words : List Text) (name : Option Text) → fault_of app words ≡ kind.DisplayHelp ∷ [] → cluster_first words ≡ false → Names words name ↔ (name ≡ None)
help_names_none words name e f = (
  unnamed_by words name kind.DisplayHelp e,
  λ n. inr (inl (subst (λ ks. IsAmong kind.DisplayHelp ks) (sym e) (inl refl), f), n),
)

-- a fault that requests no text
pub bad_names_nothing : (words : List Text) (name : Option Text) (k : ErrorKind) → fault_of app words ≡ k ∷ [] → (RequestsText words → ⊥) → Names words name → ⊥
bad_names_nothing words name k e none (inl h) = none_is_not_some k [] (sym h.0 ∙ e)
bad_names_nothing words name k e none (inr h) = none h.0

-- ---- what the program leaves

all_taken : (before bytes : List ℕ) (after : Option (List ℕ)) → TakesFront (Some before) bytes [] after → after ≡ Some (before ++ bytes)
all_taken before bytes None t = absurd t
all_taken before bytes (Some xs) t = ap (λ x. Some x) (t.2 ∙ ap (λ y. before ++ y) (sym (append-nil t.0) ∙ sym t.1))

shelled_all : (words : List Text) (history : Bool) (start before : List ℕ) (source : SourceState) (sink : SinkState) → (options_in words).keeps_history ≡ history
    → IsShelled words (Some start) source (Some before) sink → (sink.taken ≡ Some (before ++ output_of history start)) × (sink.flushed ≡ true)
shelled_all words history start before source sink keeps s =
    let served = s.served.0 in (
      all_taken before (output_of (options_in words).keeps_history served.trace) sink.taken served.written
          ∙ ap (λ (h : Bool). Some (before ++ output_of h served.trace)) keeps
          ∙ ap (λ (t : List ℕ). Some (before ++ output_of history t)) (sym served.is_input),
      served.is_out,
    )

pub all_is_written : (words : List Text) (start before : List ℕ) (source : SourceState) (sink : SinkState) (u : Unit {0})
    → fault_of app words ≡ [] → (options_in words).keeps_history ≡ true
    → EndsShell words (Some start) source (Some before) sink (Ok u) → (sink.taken ≡ Some (before ++ output_of true start)) × (sink.flushed ≡ true)
all_is_written words start before source sink u e keeps (inl s) = shelled_all words true start before source sink keeps s
all_is_written words start before source sink u e keeps (inr s) = absurd (no_text words e s.called)

pub help_reads_nothing : (words : List Text) (start : List ℕ) (before : Option (List ℕ)) (source : SourceState) (sink : SinkState) (u : Unit {0})
    → fault_of app words ≡ kind.DisplayHelp ∷ [] → EndsShell words (Some start) source before sink (Ok u) → source.left ≡ Some start
help_reads_nothing words start before source sink u e (inl s) = absurd (none_is_not_some kind.DisplayHelp [] (sym s.no_fault ∙ e))
help_reads_nothing words start before source sink u e (inr s) = s.unread.same

-- at a bad line: nothing was read or written, and the result is of the line
pub record AtLine (start before : Option (List ℕ)) (source : SourceState) (sink : SinkState) (r : Result (Unit {0}) ProgramFault) : Type 0 where
  pub unread : source.left ≡ start
  pub unwritten : sink.taken ≡ before
  pub ends : (r ≡ Err (program.Line line.Bad)) ⊎ (r ≡ Err (program.Line line.OutOfMemory))

pub at_bad_line : (words : List Text) (start before : Option (List ℕ)) (source : SourceState) (sink : SinkState) (r : Result (Unit {0}) ProgramFault) (k : ErrorKind)
    → fault_of app words ≡ k ∷ [] → (RequestsText words → ⊥) → EndsShell words start source before sink r → AtLine start before source sink r
at_bad_line words start before source sink (Ok u) k e none (inl s) = absurd (none_is_not_some k [] (sym s.no_fault ∙ e))
at_bad_line words start before source sink (Ok u) k e none (inr s) = absurd (none s.called)
at_bad_line words start before source sink (Err (program.Line line.Bad)) k e none s = record { unread = s.1.same; unwritten = s.2.same; ends = inl refl }
at_bad_line words start before source sink (Err (program.Line line.OutOfMemory)) k e none s = record { unread = s.1.same; unwritten = s.2.same; ends = inr refl }
at_bad_line words start before source sink (Err (program.Shell f)) k e none (inl s) = absurd (none_is_not_some k [] (sym s.0 ∙ e))
at_bad_line words start before source sink (Err (program.Shell f)) k e none (inr s) = absurd (none s.0)
at_bad_line words start before source sink (Err program.Open) k e none s = absurd s
at_bad_line words start before source sink (Err program.ClosedPipe) k e none s = absurd s

-- ---- closed pipes

pub others_stay : (closed : Bool) (r : Result (Unit {0}) ProgramFault) → r ≢ Err (program.Shell fault.Write) → told_apart closed r ≡ r
others_stay false r n = refl
others_stay true (Ok u) n = refl
others_stay true (Err (program.Line f)) n = refl
others_stay true (Err (program.Shell fault.Read)) n = refl
others_stay true (Err (program.Shell fault.Write)) n = absurd (n refl)
others_stay true (Err (program.Shell fault.InputTooLong)) n = refl
others_stay true (Err (program.Shell fault.OutOfMemory)) n = refl
others_stay true (Err (program.Shell fault.NotACommand)) n = refl
others_stay true (Err program.Open) n = refl
others_stay true (Err program.ClosedPipe) n = refl

-- only a closed pipe has this status
only_pipes : (r : Result (Unit {0}) ProgramFault) → status_of r ≡ 141 → r ≡ Err program.ClosedPipe
only_pipes (Ok u) e = cc
only_pipes (Err (program.Line line.Bad)) e = cc
only_pipes (Err (program.Line line.OutOfMemory)) e = cc
only_pipes (Err (program.Shell fault.Read)) e = cc
only_pipes (Err (program.Shell fault.Write)) e = cc
only_pipes (Err (program.Shell fault.InputTooLong)) e = cc
only_pipes (Err (program.Shell fault.OutOfMemory)) e = cc
only_pipes (Err (program.Shell fault.NotACommand)) e = cc
only_pipes (Err program.Open) e = cc
only_pipes (Err program.ClosedPipe) e = refl

told_closed : (r : Result (Unit {0}) ProgramFault) → told_apart true r ≡ Err program.ClosedPipe → r ≢ Err program.ClosedPipe → r ≡ Err (program.Shell fault.Write)
told_closed (Ok u) e n = cc
told_closed (Err (program.Line f)) e n = cc
told_closed (Err (program.Shell fault.Read)) e n = cc
told_closed (Err (program.Shell fault.Write)) e n = refl
told_closed (Err (program.Shell fault.InputTooLong)) e n = cc
told_closed (Err (program.Shell fault.OutOfMemory)) e n = cc
told_closed (Err (program.Shell fault.NotACommand)) e n = cc
told_closed (Err program.Open) e n = cc
told_closed (Err program.ClosedPipe) e n = absurd (n refl)

told_by : (closed : Bool) (r : Result (Unit {0}) ProgramFault) → r ≢ Err program.ClosedPipe → status_of (told_apart closed r) ≡ 141 → (closed ≡ true) × (r ≡ Err (program.Shell fault.Write))
told_by true r n e = (refl, told_closed r (only_pipes (told_apart true r) e) n)
told_by false r n e = absurd (n (only_pipes r e))

pub told_is : (closed : Bool) (r : Result (Unit {0}) ProgramFault) → r ≢ Err program.ClosedPipe
    → (status_of (told_apart closed r) ≡ 141) ↔ ((closed ≡ true) × (r ≡ Err (program.Shell fault.Write)))
told_is closed r n = (
  told_by closed r n,
  λ h. ap (λ (b : Bool). status_of (told_apart b r)) h.0 ∙ ap (λ (x : Result (Unit {0}) ProgramFault). status_of (told_apart true x)) h.1,
)
