-- What a journal says of the states before: each step kept, each state well formed, all of it undone; and a journal that is forgotten.
use Rattle.std.proofs.Common.{◌≡◌, ℕ, suc, List, [], ◌∷◌, ◌++◌, map, reverse, length, Option, Some, None, refl, sym, ap, subst, ◌∙◌}
use Rattle.std.proofs.lemmas.List.{map-append, reverse-append, length-reverse, length-map}
use Rattle.flat_model.specs.State.{State, start}
use Rattle.flat_model.specs.Command as model
use Rattle.flat_model.specs.Inverse.{Inverse, back, inverse, past_of}
use Rattle.flat_model.specs.Step.{refusal, after}
use Rattle.flat_model.specs.Machine.{recorded, end_of, undos}
use Rattle.flat_model.specs.WellFormed.{WellFormed, PastWellFormed}
use Rattle.flat_model.proofs.InverseLaws.{back_accepted, back_refused}
use Rattle.flat_model.proofs.WellFormedSteps.{kept}
use Rattle.flat_model.proofs.Limits.{kept_refused}
use Rattle.undo_journal.specs.declared.journal.JournalEntry.{JournalEntry}
use Rattle.undo_journal.specs.Answer.{record_of, record_by, state_after, state_by}
use Rattle.undo_journal.specs.Beginning.{first_state}
use Rattle.undo_journal.specs.Headline.{IsReached}
use Rattle.undo_journal.specs.History.{journal_entry, records, machine_of, timeline_of, IsRecordedStep, IsHistory}
use Rattle.undo_journal.specs.Timeline.{Timeline, becomes}

module _ (slots : ℕ) where
  -- a record gives back the state before its command, accepted or refused
  pub taken_by : (s : State) (c : model.Command) (i : Inverse) (o : Option model.Refusal) → refusal slots s c ≡ o → record_by s c o ≡ Some i → back i (state_by s c o) ≡ s
  taken_by s c i None e is = back_accepted slots s c i e is
  taken_by s c i (Some r) e is = back_refused s r i is

  step_by : (s : State) (c : model.Command) (i : Inverse) (o : Option model.Refusal) → refusal slots s c ≡ o → record_by s c o ≡ Some i → IsRecordedStep slots (state_by s c o) c i
  step_by s c i o e is =
      let b = taken_by s c i o e is in
      record {
        record_is = ap (λ (t : State). record_of slots t c) b ∙ ap (record_by s c) e ∙ is;
        state_is = ap (λ (t : State). state_after slots t c) b ∙ ap (state_by s c) e;
      }

  -- ---- every state is well formed

  step_keeps : (t : State) (c : model.Command) (o : Option model.Refusal) → refusal slots t c ≡ o → WellFormed slots t → WellFormed slots (state_by t c o)
  step_keeps t c None e w = kept slots t c w e
  step_keeps t c (Some r) e w = kept_refused slots t c r w e

  pub history_well : (forgotten : ℕ) (s : State) (es : List (model.Command × Inverse)) → IsHistory slots forgotten s es → WellFormed slots s
  history_well forgotten s [] h = h.well_formed
  history_well forgotten s (e ∷ es) h = subst (WellFormed slots) h.0.state_is (step_keeps (back e.1 s) e.0 (refusal slots (back e.1 s) e.0) refl (history_well forgotten (back e.1 s) es h.1))

  past_well : (forgotten : ℕ) (s : State) (es : List (model.Command × Inverse)) → IsHistory slots forgotten s es → PastWellFormed slots (past_of s es)
  past_well forgotten s [] h = tt
  past_well forgotten s (e ∷ es) h = (history_well forgotten (back e.1 s) es h.1, past_well forgotten (back e.1 s) es h.1)

  -- ---- and undoing everything gives the state where the past begins

  all_undone : (s : State) (es : List (model.Command × Inverse))
      → end_of slots (record { state = s; past = past_of s es }) (undos (length (past_of s es)))
      ≡ record { state = first_state s (past_of s es); past = [] }
  all_undone s [] = refl
  all_undone s (e ∷ es) = all_undone (back e.1 s) es

  -- which is the start, if nothing was forgotten
  first_is_start : (forgotten : ℕ) (s : State) (es : List (model.Command × Inverse)) → IsHistory slots forgotten s es → forgotten ≡ 0 → first_state s (past_of s es) ≡ start
  first_is_start forgotten s [] h z = h.unforgotten z
  first_is_start forgotten s (e ∷ es) h z = first_is_start forgotten (back e.1 s) es h.1 z

  pub reached : {A : Type 0} (forgotten : ℕ) (s : State) (journal : List (JournalEntry A)) → IsHistory slots forgotten s (records journal) → IsReached slots (timeline_of forgotten s journal)
  reached forgotten s journal h = record {
    well_formed = (history_well forgotten s (records journal) h, past_well forgotten s (records journal) h);
    all_undone = all_undone s (records journal);
    from_the_start = λ z. all_undone s (records journal) ∙ (λ k. record { state = first_is_start forgotten s (records journal) h z k; past = [] });
  }

-- ---- a record put in front

pub records_push : {A : Type 0} (journal : List (JournalEntry A)) (e : JournalEntry A) → records (journal ++ e ∷ []) ≡ journal_entry e ∷ records journal
records_push journal e = ap reverse (map-append journal_entry journal (e ∷ [])) ∙ reverse-append (map journal_entry journal) (journal_entry e ∷ [])

-- a command that is recorded, with the record and the state that the model gives it
module _ {A : Type 0} (slots : ℕ) (s new : State) (journal : List (JournalEntry A)) (e : JournalEntry A) (c : model.Command) (i : Inverse) (o : Option model.Refusal)
    (e_is : ◌≡◌ {A = model.Command × Inverse} (journal_entry e) (c, i)) (first : refusal slots s c ≡ o) (i_is : record_by s c o ≡ Some i)
    (new_is : new ≡ state_by s c o) where
  records_are : records (journal ++ e ∷ []) ≡ (c, i) ∷ records journal
  records_are = records_push journal e ∙ ap (λ (x : model.Command × Inverse). x ∷ records journal) e_is

  taken : back i (state_by s c o) ≡ s
  taken = taken_by slots s c i o first i_is

  pub recorded_is : machine_of new (journal ++ e ∷ []) ≡ recorded (machine_of s journal) c (state_by s c o)
  recorded_is =
      (λ k. record { state = new_is k; past = past_of (new_is k) (records_are k) })
      ∙ (λ k. record { state = state_by s c o; past = (c, taken k) ∷ past_of (taken k) (records journal) })

  pub recorded_history : (forgotten : ℕ) → IsHistory slots forgotten s (records journal) → IsHistory slots forgotten new (records (journal ++ e ∷ []))
  recorded_history forgotten h =
      subst (IsHistory slots forgotten new) (sym records_are)
      (subst (λ (t : State). IsHistory slots forgotten t ((c, i) ∷ records journal)) (sym new_is)
      (step_by slots s c i o first i_is, subst (λ (t : State). IsHistory slots forgotten t (records journal)) (sym taken) h))

-- an entry is pushed behind the journal for a command that is accepted: the history goes on, and the machine has recorded the command
pub record HasRecorded {A : Type 0} (slots forgotten : ℕ) (t : Timeline) (new : State) (items : List (JournalEntry A)) (c : model.Command) : Type 0 where
  pub history : IsHistory slots forgotten new (records items)
  pub timeline : timeline_of forgotten new items ≡ becomes t (recorded t.machine c (after t.machine.state c))

pub has_recorded : {A : Type 0} {room : List (JournalEntry A)} (slots forgotten : ℕ) (t : Timeline) (s new : State) (journal items : List (JournalEntry A)) (e : JournalEntry A) (c : model.Command) (i : Inverse)
    → timeline_of forgotten s journal ≡ t → IsHistory slots forgotten s (records journal) → room ≡ journal → items ≡ room ++ e ∷ []
    → ◌≡◌ {A = model.Command × Inverse} (journal_entry e) (c, i) → refusal slots t.machine.state c ≡ None → inverse s c ≡ Some i → new ≡ after s c
    → HasRecorded slots forgotten t new items c
has_recorded slots forgotten t s new journal items e c i view history reserved put e_is accepted i_is new_is =
    let none : refusal slots s c ≡ None = subst (λ (n : Timeline). refusal slots n.machine.state c ≡ None) (sym view) accepted in
    let items_are : items ≡ journal ++ e ∷ [] = put ∙ ap (λ js. js ++ e ∷ []) reserved in
    record {
      history = subst (λ js. IsHistory slots forgotten new (records js)) (sym items_are) (recorded_history slots s new journal e c i None e_is none i_is new_is forgotten history);
      timeline = (λ k. timeline_of forgotten new (items_are k))
          ∙ (λ k. record { machine = recorded_is slots s new journal e c i None e_is none i_is new_is k; forgotten = forgotten })
          ∙ ap (λ (n : Timeline). becomes n (recorded n.machine c (after n.machine.state c))) view;
    }

-- ---- how long the past is

past_length : (s : State) (es : List (model.Command × Inverse)) → length (past_of s es) ≡ length es
past_length s [] = refl
past_length s (e ∷ es) = ap suc (past_length (back e.1 s) es)

pub records_length : {A : Type 0} (journal : List (JournalEntry A)) → length (records journal) ≡ length journal
records_length journal = length-reverse (map journal_entry journal) ∙ length-map journal journal_entry

pub depth_is : {A : Type 0} (s : State) (journal : List (JournalEntry A)) → length journal ≡ length (past_of s (records journal))
depth_is s journal = sym (past_length s (records journal) ∙ records_length journal)
