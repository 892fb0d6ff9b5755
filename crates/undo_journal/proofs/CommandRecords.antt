-- The recorded commands are those of the journal's entries, in the same order.
use Rattle.std.proofs.Common.{◌≡◌, ◌∙◌, ℕ, List, [], ◌∷◌, ◌++◌, map, reverse, Option, refl, sym, ap}
use Rattle.std.specs.Prelude.{option_map}
use Rattle.std.specs.List.{slice_get}
use Rattle.std.proofs.lemmas.List.{map-append, reverse-append, reverse-reverse}
use Rattle.std.proofs.lemmas.Option.{slice_get-map}
use Rattle.flat_model.specs.State.{State}
use Rattle.flat_model.specs.Command as model
use Rattle.flat_model.specs.Inverse.{Inverse, back, past_of}
use Rattle.undo_journal.specs.declared.journal.JournalEntry.{JournalEntry}
use Rattle.undo_journal.specs.Answer.{recorded_commands}
use Rattle.undo_journal.specs.CommandMeaning.{command_of}
use Rattle.undo_journal.specs.History.{journal_entry, records}

abbrev pub entry_command : {A : Type 0} → JournalEntry A → model.Command
entry_command e = command_of e.command

abbrev pub first : model.Command × Inverse → model.Command
first e = e.0

past_commands : (s : State) (es : List (model.Command × Inverse)) → map (λ e. e.0) (past_of s es) ≡ map first es
past_commands s [] = refl
past_commands s (e ∷ es) = ap (λ cs. e.0 ∷ cs) (past_commands (back e.1 s) es)

entry_commands : {A : Type 0} (journal : List (JournalEntry A)) → map first (map journal_entry journal) ≡ map entry_command journal
entry_commands [] = refl
entry_commands (e ∷ journal) = ap (λ cs. entry_command e ∷ cs) (entry_commands journal)

map-reverse : {X Y : Type 0} (f : X → Y) (xs : List X) → map f (reverse xs) ≡ reverse (map f xs)
map-reverse f [] = refl
map-reverse f (x ∷ xs) =
    ap (map f) (reverse-append (x ∷ []) xs)
    ∙ map-append f (reverse xs) (x ∷ [])
    ∙ ap (λ ys. ys ++ f x ∷ []) (map-reverse f xs)
    ∙ sym (reverse-append (f x ∷ []) (map f xs))

recorded_are : {A : Type 0} (s : State) (journal : List (JournalEntry A)) → recorded_commands (past_of s (records journal)) ≡ map entry_command journal
recorded_are s journal =
    ap reverse (past_commands s (records journal) ∙ map-reverse first (map journal_entry journal))
    ∙ reverse-reverse (map first (map journal_entry journal))
    ∙ entry_commands journal

pub command_is : {A : Type 0} (s : State) (journal : List (JournalEntry A)) (i : ℕ) (o : Option (JournalEntry A)) → slice_get journal i ≡ o
    → option_map (λ (e : JournalEntry A). command_of e.command) o ≡ slice_get (recorded_commands (past_of s (records journal))) i
command_is {A} s journal i o at =
    sym (ap (λ cs. slice_get cs i) (recorded_are s journal) ∙ slice_get-map entry_command journal i ∙ ap (option_map entry_command) at)
