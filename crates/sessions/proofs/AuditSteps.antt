-- The audit, receipt by receipt.
use Rattle.std.proofs.Common.{◌≡◌, ◌∙◌, ℕ, ◌+◌, ◌<◌, ◌≤◌, ◌⊎◌, inl, inr, List, [], ◌∷◌, ◌++◌, length, Bool, true, false, slice_index_or}
use Rattle.std.proofs.Common.{slice_set, slice_get, get_or, Some, refl, sym, ap, subst, arith}
use Rattle.std.specs.List.{All, Any, Contains}
use Rattle.std.proofs.lemmas.List.{get_or-set_same, get_or-set_other, length-set}
use Rattle.std.proofs.lemmas.List.Elements.{All-push, All-weaker, Contains-push, Contains-push_cases, Contains-append_left}
use Rattle.std.proofs.lemmas.List.Quantifiers.{Any-push}
use Rattle.std.proofs.lemmas.Bool.{false≢true, cases_eq}
use Rattle.flat_model.specs.Log.{Entry, Receipt, Session, entry_of}
use Rattle.flat_model.specs.Audit.{Handed, handed, numbers, IsStranger}
use Rattle.flat_model.proofs.AuditSound.{IsNext, sound_more, numbers-push, number_at, hand}
use Rattle.sessions.specs.declared.fault.CloseFault.{CloseFault}
use Rattle.sessions.specs.declared.fault.CloseFault.TheVariants.{Stranger, Mismatch, Missing, OutOfMemory}
use Rattle.sessions.specs.Faults.{IsFirstFault}
use Rattle.sessions.specs.Marks.{Audited, IsNew, IsRefusedBy}

-- ---- one list

-- amid the list at this place: its numbers are below `least`, and the one below it is there
pub record Walk (n : ℕ) (log : List Entry) (place least : ℕ) (marks : List Bool) (hs : List Handed) : Type 0 where
  pub audited : Audited n log marks hs
  pub above : All (λ e. e.list ≡ place → e.receipt.number < least) hs
  pub last : (least ≡ 0) ⊎ Any (λ e. (e.list ≡ place) × (e.receipt.number + 1 ≡ least)) hs

next : (n : ℕ) (log : List Entry) (place least : ℕ) (marks : List Bool) (hs : List Handed) (session : ℕ) (r : Receipt)
    → Walk n log place least marks hs → IsNew n log marks session least r → slice_get log r.number ≡ Some (entry_of session r)
    → IsNext n log hs (hand place session r)
next n log place least marks hs session r w new entry = record {
  entry = (new.0, entry);
  order = λ k d lt. (
    λ same. w.audited.clear r.number new.1 new.3 (number_at hs k d r.number lt same),
    λ own. let a : (get_or hs k d).receipt.number < least = w.above k d lt own in let b : least ≤ r.number = new.2 in omega (arith, a, b),
  );
}

marked_more : (marks : List Bool) (ns : List ℕ) (x i : ℕ) → x < length marks
    → (slice_index_or marks i true ≡ true → Contains ns i) → slice_index_or (slice_set marks x true) i true ≡ true → Contains (ns ++ x ∷ []) i
marked_more marks ns x i in_marks was now =
    elim (cases_eq i x) as (λ _. Contains (ns ++ x ∷ []) i) [
      | inl same ↦ let P : ℕ → Type 0 = λ y. Contains (ns ++ x ∷ []) y in subst P (sym same) (Contains-push ns x)
      | inr other ↦ Contains-append_left ns (x ∷ []) i (was (sym (get_or-set_other marks x i true true other) ∙ now))
    ]

clear_more : (marks : List Bool) (ns : List ℕ) (x i : ℕ) → x < length marks
    → (slice_index_or marks i true ≡ false → Contains ns i → ⊥) → slice_index_or (slice_set marks x true) i true ≡ false → Contains (ns ++ x ∷ []) i → ⊥
clear_more marks ns x i in_marks was now named =
    elim (cases_eq i x) as (λ _. ⊥) [
      | inl same ↦
          let P : ℕ → Type 0 = λ y. slice_index_or (slice_set marks x true) y true ≡ false in
          false≢true (sym (subst P same now) ∙ get_or-set_same marks x true true in_marks)
      | inr other ↦
          elim (Contains-push_cases ns x i named) as (λ _. ⊥) [
            | inl old ↦ was (sym (get_or-set_other marks x i true true other) ∙ now) old
            | inr same ↦ other (sym same)
          ]
    ]

audited_more : (n : ℕ) (log : List Entry) (marks : List Bool) (hs : List Handed) (h : Handed)
    → Audited n log marks hs → IsNext n log hs h → h.receipt.number < length log
    → Audited n log (slice_set marks h.receipt.number true) (hs ++ h ∷ [])
audited_more n log marks hs h a x lt =
    let in_marks : h.receipt.number < length marks = omega (arith, a.size, lt) in
    record {
      size = length-set marks h.receipt.number true ∙ a.size;
      sound = sound_more n log hs h a.sound x;
      marked = λ i in_log now.
          let P : List ℕ → Type 0 = λ ns. Contains ns i in
          subst P (sym (numbers-push hs h)) (marked_more marks (numbers hs) h.receipt.number i in_marks (a.marked i in_log) now);
      clear = λ i in_log now named.
          let P : List ℕ → Type 0 = λ ns. Contains ns i in
          clear_more marks (numbers hs) h.receipt.number i in_marks (a.clear i in_log) now (subst P (numbers-push hs h) named);
    }

-- one receipt more is sound, and marked
pub walk_more : (n : ℕ) (log : List Entry) (place least : ℕ) (marks after : List Bool) (hs : List Handed) (session : ℕ) (r : Receipt)
    → Walk n log place least marks hs → IsNew n log marks session least r → slice_get log r.number ≡ Some (entry_of session r)
    → after ≡ slice_set marks r.number true
    → Walk n log place (r.number + 1) after (hs ++ hand place session r ∷ [])
walk_more n log place least marks after hs session r w new entry same =
    let h : Handed = hand place session r in
    let P : List Bool → Type 0 = λ ms. Audited n log ms (hs ++ h ∷ []) in
    let Below : Handed → Type 0 = λ e. e.list ≡ place → e.receipt.number < r.number + 1 in
    let Was : Handed → Type 0 = λ e. e.list ≡ place → e.receipt.number < least in
    let Last : Handed → Type 0 = λ e. (e.list ≡ place) × (e.receipt.number + 1 ≡ r.number + 1) in
    let le : least ≤ r.number = new.2 in
    record {
      audited = subst P (sym same) (audited_more n log marks hs h w.audited (next n log place least marks hs session r w new entry) new.1);
      above = All-push Below hs h (All-weaker Was Below (λ e was own. let a : e.receipt.number < least = was own in omega (arith, a, le)) hs w.above) (λ _. omega arith);
      last = inr (Any-push Last hs h (refl, refl));
    }

-- ---- a refused receipt

stranger : (n : ℕ) (log : List Entry) (place least : ℕ) (marks : List Bool) (hs : List Handed) (session : ℕ) (r : Receipt)
    → Walk n log place least marks hs
    → (n ≤ session) ⊎ ((length log ≤ r.number) ⊎ ((r.number < least) ⊎ ((r.number < length log) × (slice_index_or marks r.number true ≡ true))))
    → IsStranger n log hs (hand place session r)
stranger n log place least marks hs session r w (inl unknown) = inl unknown
stranger n log place least marks hs session r w (inr (inl past)) = inr (inl past)
stranger n log place least marks hs session r w (inr (inr (inr marked))) = inr (inr (inl (w.audited.marked r.number marked.0 marked.1)))
stranger n log place least marks hs session r w (inr (inr (inl below))) =
    elim w.last as (λ _. IsStranger n log hs (hand place session r)) [
      | inl none ↦ absurd (omega (arith, none, below))
      | inr l ↦ inr (inr (elim (cases_eq l.1.receipt.number r.number) as (λ _. Contains (numbers hs) r.number ⊎ Any (λ e. (e.list ≡ place) × (r.number < e.receipt.number)) hs) [
        | inl same ↦ inl (number_at hs l.0 l.1 r.number l.2 (ap (λ (e : Handed). e.receipt.number) l.3 ∙ same))
        | inr other ↦ inr (l.0, l.1, l.2, l.3, (l.4.0, let a : l.1.receipt.number + 1 ≡ least = l.4.1 in omega (arith, a, below, other)))
      ]))
    ]

no_stranger : (n : ℕ) (log : List Entry) (place least : ℕ) (marks : List Bool) (hs : List Handed) (session : ℕ) (r : Receipt)
    → Walk n log place least marks hs → IsNew n log marks session least r → IsStranger n log hs (hand place session r) → ⊥
no_stranger n log place least marks hs session r w new (inl unknown) = let a : session < n = new.0 in omega (arith, a, unknown)
no_stranger n log place least marks hs session r w new (inr (inl past)) = let a : r.number < length log = new.1 in omega (arith, a, past)
no_stranger n log place least marks hs session r w new (inr (inr (inl named))) = w.audited.clear r.number new.1 new.3 named
no_stranger n log place least marks hs session r w new (inr (inr (inr b))) =
    let P : Handed → Type 0 = λ e. e.list ≡ place → e.receipt.number < least in
    let own : b.1.receipt.number < least = subst P b.3 (w.above b.0 b.1 b.2) b.4.0 in
    let le : least ≤ r.number = new.2 in
    let less : r.number < b.1.receipt.number = b.4.1 in
    omega (arith, own, le, less)

-- the first receipt that is refused is the first fault
pub walk_refused : (n : ℕ) (log : List Entry) (place least : ℕ) (marks : List Bool) (hs rest : List Handed) (session : ℕ) (r : Receipt) (ss : List Session) (f : CloseFault)
    → Walk n log place least marks hs → handed ss ≡ hs ++ hand place session r ∷ rest → IsRefusedBy n log marks session least r f → IsFirstFault n log ss f
walk_refused n log place least marks hs rest session r ss (Stranger k) w split why =
    (hs, hand place session r, record { rest = rest; split = split; sound = w.audited.sound }, stranger n log place least marks hs session r w why.1, why.0)
walk_refused n log place least marks hs rest session r ss (Mismatch i) w split why =
    (hs, hand place session r, record { rest = rest; split = split; sound = w.audited.sound }, no_stranger n log place least marks hs session r w why.1, why.2, why.0)
walk_refused n log place least marks hs rest session r ss (Missing i) w split why = absurd why
walk_refused n log place least marks hs rest session r ss OutOfMemory w split why = tt
