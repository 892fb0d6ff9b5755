-- A program's command line, as `clap` sees it.
use Rattle.std.proofs.Common.{◌≡◌, true, ap, subst, ◌∙◌, inl, inr, Option, ◌≢◌, [], ◌∷◌, List}
use Rattle.clap.specs.Words.{App, HasMatchesOf, IsAmong, Text, first_of, first_value, found_of, is_simple, matches_of, rows_of}
use Rattle.clap.specs.declared.error.kind.ErrorKind.{ErrorKind}
use Rattle.clap.specs.declared.error.kind.ErrorKind.TheVariants as kind
use Rattle.clap.specs.declared.parser.matches.ArgMatches.{ArgMatches}
use Rattle.clap.proofs.WalkLemmas.{first_value-rows}

-- a command without the binary's name
abbrev pub nameless : App → App
nameless a = record { top = record a.top { no_binary_name = true }; subs = a.subs }

-- a value that was read is the one that the words say, of whichever command line
pub value_in : (line : App) → is_simple line ≡ true → (a : App) (words : List Text) (m : ArgMatches) (id : Text) (value : Option Text) → a ≡ line → HasMatchesOf a words m
    → value ≡ first_value (found_of m) id → value ≡ first_of id (matches_of line words)
value_in line simple a words m id value is h v =
    let rows : rows_of (found_of m) ≡ matches_of line words = (subst (λ x. HasMatchesOf x words m) is h simple).0 in
    v ∙ first_value-rows (found_of m) id ∙ ap (first_of id) rows

pub help_is_not_out_of_memory : kind.DisplayHelp ≡ kind.OutOfMemory → ⊥
help_is_not_out_of_memory e = cc

-- where the only fault is a call for help, there is no other
pub only_help : (k : ErrorKind) → IsAmong k (kind.DisplayHelp ∷ []) → k ≢ kind.DisplayHelp → ⊥
only_help k (inl e) n = n e
only_help k (inr x) n = absurd x
