-- The newest record taken back.
use Rattle.std.proofs.Common.{◌≡◌, ℕ, suc, ◌-◌, ◌<◌, true, List, [], ◌∷◌, ◌++◌, length, get_or, Some, None, Result, Ok, Err, refl, sym, ap, subst, ◌∙◌, arith}
use Rattle.std.specs.List.{slice_get}
use Rattle.std.proofs.lemmas.Option.{slice_get_within, slice_get-get_or}
use Rattle.std.specs.Prelude.{unwrap_or, OnErr}
use Rattle.flat_model.specs.State.{State}
use Rattle.flat_model.specs.Command as model
use Rattle.flat_model.specs.Inverse.{Inverse, back, past_of}
use Rattle.flat_model.specs.Machine.{undone, tick}
use Rattle.undo_journal.specs.declared.journal.JournalEntry.{JournalEntry}
use Rattle.undo_journal.specs.Answer.{Answers, needs_no_memory, undoes_without_memory}
use Rattle.undo_journal.specs.declared.reply.Reply.TheVariants.{NothingToUndo}
use Rattle.undo_journal.specs.History.{journal_entry, records, machine_of, timeline_of, IsHistory, IsReady}
use Rattle.undo_journal.specs.Timeline.{becomes}
use Rattle.undo_journal.proofs.Histories.{records_push, history_well}
use Rattle.undo_journal.proofs.RecordUndo.{step_ready}

pub on_err : {X E P : Type 0} (r : Result X E) → P → OnErr r P
on_err (Ok x) h = tt
on_err (Err e) h = h

-- ---- the last of a list

snoc_at : {X : Type 0} (xs : List X) (x : X) → 0 < length xs → get_or xs (length xs - 1) x ≡ x → (rest : List X) × (xs ≡ rest ++ x ∷ [])
snoc_at [] x l e = absurd (omega arith)
snoc_at (y ∷ []) x l e = ([], ap (λ z. z ∷ []) e)
snoc_at (y ∷ z ∷ xs) x l e =
    let at : length (y ∷ z ∷ xs) - 1 ≡ suc (length (z ∷ xs) - 1) = omega arith in
    let h = snoc_at (z ∷ xs) x (omega arith) (ap (λ k. get_or (y ∷ z ∷ xs) k x) (sym at) ∙ e) in
    (y ∷ h.0, ap (λ ys. y ∷ ys) h.1)

pub read_last : {X : Type 0} (xs : List X) (x : X) → slice_get xs (length xs - 1) ≡ Some x → (0 < length xs) × (get_or xs (length xs - 1) x ≡ x)
read_last xs x e =
    let l = slice_get_within xs (length xs - 1) x e in
    (omega (arith, l), ap (λ o. unwrap_or o x) (sym (slice_get-get_or xs (length xs - 1) x l) ∙ e))

pub snoc_of : {X : Type 0} (xs : List X) (x : X) → slice_get xs (length xs - 1) ≡ Some x → (rest : List X) × (xs ≡ rest ++ x ∷ [])
snoc_of xs x e = let r = read_last xs x e in snoc_at xs x r.0 r.1

last_at : {X : Type 0} (rest : List X) (y x : X) → get_or (rest ++ y ∷ []) (length (rest ++ y ∷ []) - 1) x ≡ y
last_at [] y x = refl
last_at (z ∷ []) y x = refl
last_at (z ∷ w ∷ rest) y x =
    let at : length ((z ∷ w ∷ rest) ++ y ∷ []) - 1 ≡ suc (length ((w ∷ rest) ++ y ∷ []) - 1) = omega arith in
    ap (λ k. get_or ((z ∷ w ∷ rest) ++ y ∷ []) k x) at ∙ last_at (w ∷ rest) y x

-- what is popped is what was last
pub popped : {X : Type 0} (xs rest : List X) (y x : X) → xs ≡ rest ++ y ∷ [] → slice_get xs (length xs - 1) ≡ Some x → y ≡ x
popped {X} xs rest y x is e = sym (last_at rest y x) ∙ ap (λ (zs : List X). get_or zs (length zs - 1) x) (sym is) ∙ (read_last xs x e).1

-- the last of a list that is read through a slice
pub read_through : {X : Type 0} (xs slice : List X) (x : X) → slice ≡ xs → Some x ≡ slice_get slice (length slice - 1) → slice_get xs (length xs - 1) ≡ Some x
read_through {X} xs slice x same e = subst (λ (ys : List X). slice_get ys (length ys - 1) ≡ Some x) same (sym e)

-- a list without a last item is empty
pub empty_of : {X : Type 0} (xs slice : List X) → slice ≡ xs → None ≡ slice_get slice (length slice - 1) → xs ≡ []
empty_of xs [] same e = sym same
empty_of xs (y ∷ ys) same e = absurd (let h : None ≡ Some (get_or (y ∷ ys) (length (y ∷ ys) - 1) y) = e ∙ slice_get-get_or (y ∷ ys) (length (y ∷ ys) - 1) y (omega arith) in cc)

-- ---- the machine behind

-- where nothing is recorded there is nothing to undo
pub nothing_undone : {A : Type 0} (slots forgotten : ℕ) (s : State) (journal : List (JournalEntry A)) → journal ≡ []
    → Answers {A = A} slots (timeline_of forgotten s journal) model.Undo NothingToUndo (timeline_of forgotten s journal)
nothing_undone {A} slots forgotten s journal e =
    subst (λ (js : List (JournalEntry A)). Answers {A = A} slots (timeline_of forgotten s js) model.Undo NothingToUndo (timeline_of forgotten s js)) (sym e)
    (record { state = refl; reply_is = refl })

module _ {A : Type 0} (slots : ℕ) (s : State) (journal rest : List (JournalEntry A)) (e : JournalEntry A) (is : journal ≡ rest ++ e ∷ []) where
  records_are : records journal ≡ journal_entry e ∷ records rest
  records_are = ap (λ (js : List (JournalEntry A)). records js) is ∙ records_push rest e

  -- the last record can be taken back
  pub last_ready : (forgotten : ℕ) → IsHistory slots forgotten s (records journal) → IsReady slots s (journal_entry e).1
  last_ready forgotten h =
      let k = subst (IsHistory slots forgotten s) records_are h in
      step_ready slots s (journal_entry e).0 (journal_entry e).1 (history_well slots forgotten (back (journal_entry e).1 s) (records rest) k.1) k.0

  -- an undo that asks for no memory has a record that asks for none
  pub needs_none : (forgotten : ℕ) → IsHistory slots forgotten s (records journal)
      → undoes_without_memory slots (past_of s (records journal)) ≡ true → needs_no_memory (Some (journal_entry e).1) ≡ true
  needs_none forgotten h u =
      let k = subst (IsHistory slots forgotten s) records_are h in
      ap needs_no_memory (sym k.0.record_is) ∙ subst (λ (es : List (model.Command × Inverse)). undoes_without_memory slots (past_of s es) ≡ true) records_are u

  module _ (new : State) (new_is : new ≡ back (journal_entry e).1 s) where
    pub undone_is : (forgotten : ℕ) → timeline_of forgotten new rest ≡ becomes (timeline_of forgotten s journal) (tick slots (machine_of s journal) model.Undo).0
    undone_is forgotten =
        (λ k. record { machine = record { state = new_is k; past = past_of (new_is k) (records rest) }; forgotten = forgotten })
        ∙ sym (λ k. record { machine = (undone s (past_of s (records_are k))).0; forgotten = forgotten })

    pub reply_is : (tick slots (machine_of s journal) model.Undo).1 ≡ model.Undone (journal_entry e).0
    reply_is = λ k. (undone s (past_of s (records_are k))).1

    pub undone_history : (forgotten : ℕ) → IsHistory slots forgotten s (records journal) → IsHistory slots forgotten new (records rest)
    undone_history forgotten h = subst (λ (t : State). IsHistory slots forgotten t (records rest)) (sym new_is) (subst (IsHistory slots forgotten s) records_are h).1
