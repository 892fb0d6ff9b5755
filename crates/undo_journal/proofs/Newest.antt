-- The newest record is the one that the past calls for.
use Rattle.std.proofs.Common.{◌≡◌, ℕ, List, [], ◌∷◌, Some, None, refl, sym, ap, subst, arith, ◌∙◌}
use Rattle.std.proofs.lemmas.Option.{slice_get-get_or}
use Rattle.std.specs.List.{slice_get}
use Rattle.std.proofs.Common.{length, ◌-◌}
use Rattle.flat_model.specs.State.{State}
use Rattle.flat_model.specs.Command as model
use Rattle.flat_model.specs.Inverse.{Inverse, past_of}
use Rattle.undo_journal.specs.declared.journal.JournalEntry.{JournalEntry}
use Rattle.undo_journal.specs.Answer.{IsNewest, newest_command}
use Rattle.undo_journal.specs.History.{journal_entry, records, IsHistory}
use Rattle.undo_journal.proofs.Histories.{records_push}
use Rattle.undo_journal.proofs.Undos.{snoc_of}

pub newest_is : {A : Type 0} (slots forgotten : ℕ) (s : State) (journal : List (JournalEntry A)) (e : JournalEntry A)
    → slice_get journal (length journal - 1) ≡ Some e → IsHistory slots forgotten s (records journal)
    → IsNewest slots s (past_of s (records journal)) (journal_entry e).1
newest_is {A} slots forgotten s journal e at h =
    let r = snoc_of journal e at in
    let are = ap (λ (js : List (JournalEntry A)). records js) r.1 ∙ records_push r.0 e in
    let k = subst (IsHistory slots forgotten s) are h in
    subst (λ (es : List (model.Command × Inverse)). IsNewest slots s (past_of s es) (journal_entry e).1) (sym are) (k.0.record_is, refl)

pub newest_command_is : {A : Type 0} (s : State) (journal : List (JournalEntry A)) (e : JournalEntry A) → slice_get journal (length journal - 1) ≡ Some e
    → Some (journal_entry e).0 ≡ newest_command (past_of s (records journal))
newest_command_is {A} s journal e at =
    let r = snoc_of journal e at in
    sym (ap (λ (es : List (model.Command × Inverse)). newest_command (past_of s es)) (ap (λ (js : List (JournalEntry A)). records js) r.1 ∙ records_push r.0 e))

-- a journal without a last entry is empty, and so is its past
pub no_newest : {A : Type 0} (s : State) (journal : List (JournalEntry A)) → slice_get journal (length journal - 1) ≡ None → past_of s (records journal) ≡ []
no_newest s [] at = refl
no_newest s (e ∷ journal) at =
    let some = slice_get-get_or (e ∷ journal) (length (e ∷ journal) - 1) e (omega (arith)) in
    absurd cc
