-- The program's command line, as `clap` sees it.
use Rattle.std.proofs.Common.{◌≡◌, true, ap, ap₂, refl, sym, subst, ◌∙◌, ◌⊎◌, inl, inr, codes, List, Option, Result, Ok, Err}
use Rattle.clap.specs.Words.{App, HasMatchesOf, IsAmong, Rule, Text, fault_of, first_of, first_value, found_of, is_simple, is_simple_and_free, matches_of, new_app, with_rule}
use Rattle.clap.specs.declared.error.kind.ErrorKind.{ErrorKind}
use Rattle.clap.specs.declared.error.kind.ErrorKind.TheVariants as kind
use Rattle.clap.specs.declared.parser.matches.ArgMatches.{ArgMatches}
use Rattle.clap.proofs.OnLiterals.{clap_on_literals}
use Rattle.program_io.specs.declared.arguments.LineFault.{LineFault}
use Rattle.program_io.specs.declared.arguments.LineFault.TheVariants.{Bad, OutOfMemory}
use Rattle.program_io.specs.Clusters.{cluster_first}
use Rattle.program_io.proofs.CommandLines.{nameless, value_in, help_is_not_out_of_memory}
use Rattle.shell_main.specs.declared.arguments.Ask.{Ask}
use Rattle.shell_main.specs.declared.arguments.Ask.TheVariants.{Serve, Help, Version}
use Rattle.shell_main.specs.ShellArguments.{AsksShell, AsksShellBy, app, file_in, file_rule, flag_said, no_undo_rule, strict_rule}

-- a command with a version
abbrev pub versioned : App → App
versioned a = record { top = record a.top { has_version = true }; subs = a.subs }

pub app_is : (fresh numbered told bare one both whole : App) (file strict no_undo : Rule) → fresh ≡ new_app (codes "cgshell") → numbered ≡ versioned fresh → told ≡ numbered → bare ≡ nameless told
    → one ≡ with_rule bare file → both ≡ with_rule one strict → whole ≡ with_rule both no_undo → file ≡ file_rule → strict ≡ strict_rule → no_undo ≡ no_undo_rule → whole ≡ app
app_is fresh numbered told bare one both whole file strict no_undo f n t b o d w r s u = w ∙ ap₂ with_rule (d ∙ ap₂ with_rule (o ∙ ap₂ with_rule (b ∙ ap nameless (t ∙ n ∙ ap versioned f)) r) s) u

pub app_simple : is_simple app ≡ true
unfolding clap_on_literals
app_simple = refl

pub app_free : is_simple_and_free app ≡ true
unfolding clap_on_literals
app_free = refl

pub file_said_in : (a : App) (words : List Text) (m : ArgMatches) (value : Option Text) → a ≡ app → HasMatchesOf a words m → value ≡ first_value (found_of m) (codes "FILE") → value ≡ file_in words
file_said_in a words m value is h v = value_in app app_simple a words m (codes "FILE") value is h v

pub flag_said_in : (a : App) (words : List Text) (m : ArgMatches) (id : Text) (value : Option Text) → a ≡ app → HasMatchesOf a words m
    → value ≡ first_value (found_of m) id → flag_said value ≡ flag_said (first_of id (matches_of app words))
flag_said_in a words m id value is h v = ap flag_said (value_in app app_simple a words m id value is h v)

version_apart : kind.DisplayVersion ≡ kind.OutOfMemory → ⊥
version_apart e = cc

pub asks_by : (words : List Text) (k : ErrorKind) (r : Result Ask LineFault) → AsksShellBy (cluster_first words) k r → (k ≡ kind.OutOfMemory) ⊎ IsAmong k (fault_of app words)
    → AsksShell words r
asks_by words k (Ok (Serve file options)) h b = absurd h
asks_by words k (Ok (Help text)) h (inl e) = absurd (help_is_not_out_of_memory (sym h.0 ∙ e))
asks_by words k (Ok (Help text)) h (inr a) = (subst (λ x. IsAmong x (fault_of app words)) h.0 a, h.1)
asks_by words k (Ok (Version text)) h (inl e) = absurd (version_apart (sym h.0 ∙ e))
asks_by words k (Ok (Version text)) h (inr a) = (subst (λ x. IsAmong x (fault_of app words)) h.0 a, h.1)
asks_by words k (Err Bad) h (inl e) = absurd (h.1 e)
asks_by words k (Err Bad) h (inr a) = record { fault = k; is_found = a; is_none = h.0 }
asks_by words k (Err OutOfMemory) h b = tt
