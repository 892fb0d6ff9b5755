-- What the definition of an audit says: there is a fault or the receipts are the entries, never both, and one fault at most.
use Rattle.std.proofs.Common.{◌≡◌, ◌≢◌, ◌∙◌, ℕ, ◌+◌, ◌<◌, ◌≤◌, ◌⊎◌, inl, inr, List, [], ◌∷◌, ◌++◌, map, take, drop, length, Bool, true}
use Rattle.std.proofs.Common.{false, slice_get, get_or, Some, None, Option, suc, zero, refl, sym, ap, subst, arith, cond, ◌==◌}
use Rattle.std.specs.Prelude.{count_by}
use Rattle.std.specs.List.{All, Any, AllPairs, Contains}
use Rattle.std.specs.List.Sorted.{IsStrictlyIncreasing}
use Rattle.std.proofs.lemmas.List.{append-nil, append_assoc, take_at, get_or_append_left, get_or_at, get_or-map, length-map, length-append}
use Rattle.std.proofs.lemmas.List.{length_push, take-append-le, take-append-drop, get_or_default}
use Rattle.std.proofs.lemmas.List.Elements.{All-nil, All-cons, Contains-append_right}
use Rattle.std.proofs.lemmas.List.Sums.{sum_by-cons}
use Rattle.std.proofs.lemmas.Option.{slice_get_within, none-some, same_Some}
use Rattle.std.proofs.lemmas.Bool.{cases_eq, cases_order, cases_lt, ne_eqb, eq-eqb}
use Rattle.flat_model.specs.Log.{Entry, Receipt, Session, entry_of}
use Rattle.flat_model.specs.Audit.{ReceiptFault, Stranger, Mismatch, Missing, Handed, list_of, handed_from, handed, numbers, IsEntry}
use Rattle.flat_model.specs.Audit.{InOrder, AreSound, AreEntries, IsStranger, Differs, Reached, FirstFault}
use Rattle.flat_model.proofs.AuditSound.{IsNext, sound_more, sound_none, sound_front, sound_last, number_at, not_named, hand}

-- ---- a receipt is a stranger exactly where it cannot come next

pub known_no_stranger : (n : ℕ) (log : List Entry) (hs : List Handed) (h : Handed) → h.session < n → h.receipt.number < length log → All (λ e. InOrder e h) hs → IsStranger n log hs h → ⊥
known_no_stranger n log hs h known in_log order (inl unknown) = omega (arith, known, unknown)
known_no_stranger n log hs h known in_log order (inr (inl past)) = omega (arith, in_log, past)
known_no_stranger n log hs h known in_log order (inr (inr (inl named))) = not_named hs h.receipt.number (λ k d lt. (order k d lt).0) named
known_no_stranger n log hs h known in_log order (inr (inr (inr b))) =
    let P : Handed → Type 0 = λ e. InOrder e h in
    let o : InOrder b.1 h = subst P b.3 (order b.0 b.1 b.2) in
    let ascends : b.1.receipt.number < h.receipt.number = o.1 b.4.0 in
    let less : h.receipt.number < b.1.receipt.number = b.4.1 in
    omega (arith, ascends, less)

pub next_no_stranger : (n : ℕ) (log : List Entry) (hs : List Handed) (h : Handed) → IsNext n log hs h → IsStranger n log hs h → ⊥
next_no_stranger n log hs h x s = known_no_stranger n log hs h x.entry.0 (slice_get_within log h.receipt.number (entry_of h.session h.receipt) x.entry.1) x.order s

pub no_stranger_next : (n : ℕ) (log : List Entry) (hs : List Handed) (h : Handed) → (IsStranger n log hs h → ⊥)
    → slice_get log h.receipt.number ≡ Some (entry_of h.session h.receipt) → IsNext n log hs h
no_stranger_next n log hs h denied same = record {
  entry = (elim (cases_lt h.session n) as (λ _. h.session < n) [ inl lt ↦ lt | inr ge ↦ absurd (denied (inl ge)) ], same);
  order = λ k d lt. (
    λ e. denied (inr (inr (inl (number_at hs k d h.receipt.number lt e)))),
    λ own. elim (cases_order (get_or hs k d).receipt.number h.receipt.number) as (λ _. (get_or hs k d).receipt.number < h.receipt.number) [
      | inl e ↦ absurd (denied (inr (inr (inl (number_at hs k d h.receipt.number lt e)))))
      | inr (inl less) ↦ less
      | inr (inr more) ↦ absurd (denied (inr (inr (inr (at_place hs k d lt own more)))))
    ],
  );
}
  where
    at_place : (hs : List Handed) (k : ℕ) (d : Handed) → k < length hs → (get_or hs k d).list ≡ h.list → h.receipt.number < (get_or hs k d).receipt.number
        → Any (λ e. (e.list ≡ h.list) × (h.receipt.number < e.receipt.number)) hs
    at_place hs k d lt own more = (k, get_or hs k d, lt, (Contains-read hs k d lt), (own, more))
      where
        Contains-read : (xs : List Handed) (i : ℕ) (e : Handed) → i < length xs → get_or xs i (get_or xs i e) ≡ get_or xs i e
        Contains-read xs i e in_xs = get_or_default xs i (get_or xs i e) e in_xs

-- ---- never both

-- what comes before a longer front, with the receipt after it, begins that front
front_of : (xs ys ss ts : List Handed) (x : Handed) → xs ++ x ∷ ss ≡ ys ++ ts → length xs < length ys → ys ≡ (xs ++ x ∷ []) ++ drop (length xs + 1) ys
front_of xs ys ss ts x same lt =
    let n : ℕ = length xs + 1 in
    let whole : (xs ++ x ∷ []) ++ ss ≡ ys ++ ts = append_assoc xs (x ∷ []) ss ∙ same in
    let one : take n ((xs ++ x ∷ []) ++ ss) ≡ xs ++ x ∷ [] = take_at (xs ++ x ∷ []) ss n (length_push xs x) in
    let two : take n (ys ++ ts) ≡ take n ys = take-append-le n ys ts (omega (arith, lt)) in
    sym (take-append-drop n ys) ∙ ap (λ t. t ++ drop n ys) (sym two ∙ sym (ap (λ t. take n t) whole) ∙ one)

-- a receipt that sound receipts go past is at denied fault
passed : (n : ℕ) (log : List Entry) (xs ys : List Handed) (x : Handed) → ys ≡ (xs ++ x ∷ []) ++ drop (length xs + 1) ys → AreSound n log ys → IsNext n log xs x
passed n log xs ys x cut s =
    let P : List Handed → Type 0 = λ t. AreSound n log t in
    sound_last n log xs x (sound_front n log (xs ++ x ∷ []) (drop (length xs + 1) ys) (subst P cut s))

passed_whole : (n : ℕ) (log : List Entry) (hs before : List Handed) (h : Handed) → Reached n log hs before h → AreSound n log hs → IsNext n log before h
passed_whole n log hs before h at s =
    let P : List Handed → Type 0 = λ t. AreSound n log t in
    let cut : hs ≡ (before ++ h ∷ []) ++ at.rest = at.split ∙ sym (append_assoc before (h ∷ []) at.rest) in
    sound_last n log before h (sound_front n log (before ++ h ∷ []) at.rest (subst P cut s))

-- at a fault of its own: a stranger, or different
abbrev pub AtFault : ℕ → List Entry → List Handed → Handed → Type 0
AtFault n log before h = IsStranger n log before h ⊎ Differs log h

next_no_fault : (n : ℕ) (log : List Entry) (before : List Handed) (h : Handed) → IsNext n log before h → AtFault n log before h → ⊥
next_no_fault n log before h x (inl s) = next_no_stranger n log before h x s
next_no_fault n log before h x (inr d) = d x.entry.1

pub fault_not_entries : (n : ℕ) (log : List Entry) (ss : List Session) (f : ReceiptFault) → FirstFault n log ss f → AreEntries n log ss → ⊥
fault_not_entries n log ss (Stranger k) x e = next_no_fault n log x.0 x.1 (passed_whole n log (handed ss) x.0 x.1 x.2 e.sound) (inl x.3)
fault_not_entries n log ss (Mismatch i) x e = next_no_fault n log x.0 x.1 (passed_whole n log (handed ss) x.0 x.1 x.2 e.sound) (inr x.4)
fault_not_entries n log ss (Missing i) x e = x.2 (e.each i x.1)

-- ---- one at most

same_place : (n : ℕ) (log : List Entry) (hs xs ys : List Handed) (x y : Handed) → Reached n log hs xs x → Reached n log hs ys y → AtFault n log xs x → AtFault n log ys y → (xs ≡ ys) × (x ≡ y)
same_place n log hs xs ys x y a b at_x at_y =
    let same : xs ++ x ∷ a.rest ≡ ys ++ y ∷ b.rest = sym a.split ∙ b.split in
    elim (cases_order (length xs) (length ys)) as (λ _. (xs ≡ ys) × (x ≡ y)) [
      | inl e ↦ (
        sym (take_at xs (x ∷ a.rest) (length xs) refl) ∙ ap (λ t. take (length xs) t) same ∙ take_at ys (y ∷ b.rest) (length xs) (sym e),
        sym (get_or_at xs x a.rest x (length xs) refl) ∙ ap (λ t. get_or t (length xs) x) same ∙ get_or_at ys y b.rest x (length xs) (sym e),
      )
      | inr (inl lt) ↦ absurd (next_no_fault n log xs x (passed n log xs ys x (front_of xs ys a.rest (y ∷ b.rest) x same lt) b.sound) at_x)
      | inr (inr gt) ↦ absurd (next_no_fault n log ys y (passed n log ys xs y (front_of ys xs b.rest (x ∷ a.rest) y (sym same) gt) a.sound) at_y)
    ]

pub faults_are_one : (n : ℕ) (log : List Entry) (ss : List Session) (f g : ReceiptFault) → FirstFault n log ss f → FirstFault n log ss g → f ≡ g
faults_are_one n log ss (Stranger k) (Stranger l) x y =
    let at = same_place n log (handed ss) x.0 y.0 x.1 y.1 x.2 y.2 (inl x.3) (inl y.3) in
    ap (λ i. Stranger i) (sym x.4 ∙ ap (λ (h : Handed). h.session) at.1 ∙ y.4)
faults_are_one n log ss (Mismatch i) (Mismatch j) x y =
    let at = same_place n log (handed ss) x.0 y.0 x.1 y.1 x.2 y.2 (inr x.4) (inr y.4) in
    ap (λ i. Mismatch i) (sym x.5 ∙ ap (λ (h : Handed). h.receipt.number) at.1 ∙ y.5)
faults_are_one n log ss (Stranger k) (Mismatch j) x y =
    let at = same_place n log (handed ss) x.0 y.0 x.1 y.1 x.2 y.2 (inl x.3) (inr y.4) in
    let P : Handed → Type 0 = λ h. IsStranger n log y.0 h in
    let Q : List Handed → Type 0 = λ hs. IsStranger n log hs x.1 in
    absurd (y.3 (subst P at.1 (subst Q at.0 x.3)))
faults_are_one n log ss (Mismatch j) (Stranger k) x y =
    let at = same_place n log (handed ss) y.0 x.0 y.1 x.1 y.2 x.2 (inl y.3) (inr x.4) in
    let P : Handed → Type 0 = λ h. IsStranger n log x.0 h in
    let Q : List Handed → Type 0 = λ hs. IsStranger n log hs y.1 in
    absurd (x.3 (subst P at.1 (subst Q at.0 y.3)))
faults_are_one n log ss (Missing i) (Missing j) x y =
    elim (cases_order i j) as (λ _. Missing i ≡ Missing j) [
      | inl e ↦ ap (λ k. Missing k) e
      | inr (inl lt) ↦ absurd (x.2 (y.3 i lt))
      | inr (inr gt) ↦ absurd (y.2 (x.3 j gt))
    ]
faults_are_one n log ss (Missing i) (Stranger k) x y = absurd (next_no_fault n log y.0 y.1 (passed_whole n log (handed ss) y.0 y.1 y.2 x.0) (inl y.3))
faults_are_one n log ss (Missing i) (Mismatch k) x y = absurd (next_no_fault n log y.0 y.1 (passed_whole n log (handed ss) y.0 y.1 y.2 x.0) (inr y.4))
faults_are_one n log ss (Stranger k) (Missing i) x y = absurd (next_no_fault n log x.0 x.1 (passed_whole n log (handed ss) x.0 x.1 x.2 y.0) (inl x.3))
faults_are_one n log ss (Mismatch k) (Missing i) x y = absurd (next_no_fault n log x.0 x.1 (passed_whole n log (handed ss) x.0 x.1 x.2 y.0) (inr x.4))

-- ---- one at least

-- whether a number is among others
among : (ns : List ℕ) (i : ℕ) → Contains ns i ⊎ (Contains ns i → ⊥)
among [] i = inr (λ c. omega (arith, c.1))
among (m ∷ ns) i =
    elim (cases_eq m i) as (λ _. Contains (m ∷ ns) i ⊎ (Contains (m ∷ ns) i → ⊥)) [
      | inl e ↦ inl (0, omega arith, e)
      | inr other ↦ elim (among ns i) as (λ _. Contains (m ∷ ns) i ⊎ (Contains (m ∷ ns) i → ⊥)) [
        | inl c ↦ inl (Contains-append_right (m ∷ []) ns i c)
        | inr denied ↦ inr (λ c. none m ns i other denied c.0 c.1 c.2)
      ]
    ]
  where
    none : (m : ℕ) (ns : List ℕ) (i : ℕ) → (m ≡ i → ⊥) → (Contains ns i → ⊥) → (k : ℕ) → k < length (m ∷ ns) → get_or (m ∷ ns) k i ≡ i → ⊥
    none m ns i other denied zero lt at = other at
    none m ns i other denied (suc k) lt at = denied (k, omega (arith, lt), at)

either : {A B : Type 0} → A ⊎ (A → ⊥) → B ⊎ (B → ⊥) → (A ⊎ B) ⊎ (A ⊎ B → ⊥)
either (inl a) y = inl (inl a)
either (inr x) (inl b) = inl (inr b)
either (inr x) (inr y) = inr (λ z. neither x y z)
  where
    neither : {A B : Type 0} → (A → ⊥) → (B → ⊥) → A ⊎ B → ⊥
    neither x y (inl a) = x a
    neither x y (inr b) = y b

both : {A B : Type 0} → A ⊎ (A → ⊥) → B ⊎ (B → ⊥) → (A × B) ⊎ (A × B → ⊥)
both (inl a) (inl b) = inl (a, b)
both (inl a) (inr y) = inr (λ z. y z.1)
both (inr x) y = inr (λ z. x z.0)

below : (a b : ℕ) → (a < b) ⊎ (a < b → ⊥)
below a b = elim (cases_lt a b) as (λ _. (a < b) ⊎ (a < b → ⊥)) [ inl lt ↦ inl lt | inr ge ↦ inr (λ lt. omega (arith, lt, ge)) ]

-- whether a greater number stands in the same list
greater : (hs : List Handed) (place i : ℕ) → Any (λ e. (e.list ≡ place) × (i < e.receipt.number)) hs ⊎ (Any (λ e. (e.list ≡ place) × (i < e.receipt.number)) hs → ⊥)
greater [] place i = inr (λ w. omega (arith, w.2))
greater (h ∷ hs) place i =
    elim (both (cases_eq h.list place) (below i h.receipt.number)) as (λ _. Any (λ e. (e.list ≡ place) × (i < e.receipt.number)) (h ∷ hs)
    ⊎ (Any (λ e. (e.list ≡ place) × (i < e.receipt.number)) (h ∷ hs) → ⊥)) [
      | inl here ↦ inl (0, h, omega arith, refl, here)
      | inr other ↦ elim (greater hs place i) as (λ _. Any (λ e. (e.list ≡ place) × (i < e.receipt.number)) (h ∷ hs) ⊎ (Any (λ e. (e.list ≡ place) × (i < e.receipt.number)) (h ∷ hs) → ⊥)) [
        | inl w ↦ inl (suc w.0, w.1, (let lt : w.0 < length hs = w.2 in omega (arith, lt)), w.3, w.4)
        | inr denied ↦ inr (λ w. none h hs place i other denied w.0 w.1 w.2 w.3 w.4)
      ]
    ]
  where
    none : (h : Handed) (hs : List Handed) (place i : ℕ) → ((h.list ≡ place) × (i < h.receipt.number) → ⊥) → (Any (λ e. (e.list ≡ place) × (i < e.receipt.number)) hs → ⊥)
        → (k : ℕ) (e : Handed) → k < length (h ∷ hs) → get_or (h ∷ hs) k e ≡ e → (e.list ≡ place) × (i < e.receipt.number) → ⊥
    none h hs place i other denied zero e lt at w = let P : Handed → Type 0 = λ x. (x.list ≡ place) × (i < x.receipt.number) in other (subst P (sym at) w)
    none h hs place i other denied (suc k) e lt at w = denied (k, e, omega (arith, lt), at, w)

stranger_or_not : (n : ℕ) (log : List Entry) (before : List Handed) (h : Handed) → IsStranger n log before h ⊎ (IsStranger n log before h → ⊥)
stranger_or_not n log before h =
    either (at_most n h.session) (either (at_most (length log) h.receipt.number) (either (among (numbers before) h.receipt.number) (greater before h.list h.receipt.number)))
  where
    at_most : (a b : ℕ) → (a ≤ b) ⊎ (a ≤ b → ⊥)
    at_most a b = elim (cases_lt b a) as (λ _. (a ≤ b) ⊎ (a ≤ b → ⊥)) [ inl lt ↦ inr (λ le. omega (arith, lt, le)) | inr ge ↦ inl ge ]

some_or_not : ((a b : Entry) → (a ≡ b) ⊎ (a ≢ b)) → (o : Option Entry) (e : Entry) → (o ≡ Some e) ⊎ (o ≢ Some e)
some_or_not same None e = inr (λ q. none-some e q)
some_or_not same (Some x) e = elim (same x e) as (λ _. (Some x ≡ Some e) ⊎ (Some x ≢ Some e)) [ inl q ↦ inl (ap (λ y. Some y) q) | inr other ↦ inr (λ q. other (same_Some x e q)) ]

-- over the receipts from one on: all are sound, or one is the first at fault
abbrev pub FoundAt : ℕ → List Entry → List Handed → Type 0
FoundAt n log hs = (before : List Handed) × (h : Handed) × Reached n log hs before h × (IsStranger n log before h ⊎ ((IsStranger n log before h → ⊥) × Differs log h))

sound_or_found : ((a b : Entry) → (a ≡ b) ⊎ (a ≢ b)) → (n : ℕ) (log : List Entry) (all hs ts : List Handed) → all ≡ hs ++ ts → AreSound n log hs → AreSound n log all ⊎ FoundAt n log all
sound_or_found same n log all hs [] cut s = let P : List Handed → Type 0 = λ t. AreSound n log t in inl (subst P (sym (cut ∙ append-nil hs)) s)
sound_or_found same n log all hs (t ∷ ts) cut s =
    elim (stranger_or_not n log hs t) as (λ _. AreSound n log all ⊎ FoundAt n log all) [
      | inl strange ↦ inr (hs, t, record { rest = ts; split = cut; sound = s }, inl strange)
      | inr known ↦ elim (some_or_not same (slice_get log t.receipt.number) (entry_of t.session t.receipt)) as (λ _. AreSound n log all ⊎ FoundAt n log all) [
        | inl is ↦ sound_or_found same n log all (hs ++ t ∷ []) ts (cut ∙ sym (append_assoc hs (t ∷ []) ts)) (sound_more n log hs t s (no_stranger_next n log hs t known is))
        | inr other ↦ inr (hs, t, record { rest = ts; split = cut; sound = s }, inr (known, other))
      ]
    ]

abbrev pub LeastMissing : List ℕ → ℕ → Type 0
LeastMissing ns size = (i : ℕ) × (i < size) × (Contains ns i → ⊥) × ((j : ℕ) → j < i → Contains ns j)

all_or_missing : (ns : List ℕ) (size : ℕ) → ((i : ℕ) → i < size → Contains ns i) ⊎ LeastMissing ns size
all_or_missing ns zero = inl (λ i lt. absurd (omega (arith, lt)))
all_or_missing ns (suc size) =
    elim (all_or_missing ns size) as (λ _. ((i : ℕ) → i < suc size → Contains ns i) ⊎ LeastMissing ns (suc size)) [
      | inl all ↦ elim (among ns size) as (λ _. ((i : ℕ) → i < suc size → Contains ns i) ⊎ LeastMissing ns (suc size)) [
        | inl c ↦ inl (λ i lt. elim (cases_lt i size) as (λ _. Contains ns i) [
          | inl lower ↦ all i lower
          | inr ge ↦ let P : ℕ → Type 0 = λ k. Contains ns k in let e : size ≡ i = omega (arith, lt, ge) in subst P e c
        ])
        | inr missing ↦ inr (size, omega arith, missing, all)
      ]
      | inr w ↦ inr (w.0, (let lt : w.0 < size = w.1 in omega (arith, lt)), w.2, w.3)
    ]

pub entries_or_fault : ((a b : Entry) → (a ≡ b) ⊎ (a ≢ b)) → (n : ℕ) (log : List Entry) (ss : List Session) → AreEntries n log ss ⊎ ((f : ReceiptFault) × FirstFault n log ss f)
entries_or_fault same n log ss =
    elim (sound_or_found same n log (handed ss) [] (handed ss) refl (sound_none n log)) as (λ _. AreEntries n log ss ⊎ ((f : ReceiptFault) × FirstFault n log ss f)) [
      | inl s ↦ elim (all_or_missing (numbers (handed ss)) (length log)) as (λ _. AreEntries n log ss ⊎ ((f : ReceiptFault) × FirstFault n log ss f)) [
        | inl all ↦ inl (record { sound = s; each = all })
        | inr w ↦ inr (Missing w.0, (s, w.1, w.2, w.3))
      ]
      | inr w ↦ inr (elim w.3 as (λ _. (f : ReceiptFault) × FirstFault n log ss f) [
        | inl strange ↦ (Stranger w.1.session, (w.0, w.1, w.2, strange, refl))
        | inr d ↦ (Mismatch w.1.receipt.number, (w.0, w.1, w.2, d.0, d.1, refl))
      ])
    ]

-- ---- each entry once

pairs_tail : {X : Type 0} (R : X → X → Type 0) (x : X) (xs : List X) → AllPairs R (x ∷ xs) → AllPairs R xs
pairs_tail R x xs p i j d lt in_xs = p (suc i) (suc j) d (omega (arith, lt)) (omega (arith, in_xs))

pairs_head : {X : Type 0} (R : X → X → Type 0) (x : X) (xs : List X) → AllPairs R (x ∷ xs) → All (R x) xs
pairs_head R x xs p k d lt = p 0 (suc k) d (omega arith) (omega (arith, lt))

pairs_back : {X : Type 0} (R : X → X → Type 0) (xs ys : List X) → AllPairs R (xs ++ ys) → AllPairs R ys
pairs_back R [] ys p = p
pairs_back R (x ∷ xs) ys p = pairs_back R xs ys (pairs_tail R x (xs ++ ys) p)

pairs_front : {X : Type 0} (R : X → X → Type 0) (xs ys : List X) → AllPairs R (xs ++ ys) → AllPairs R xs
pairs_front {X} R xs ys p i j d lt in_xs =
    let i_in : i < length xs = omega (arith, lt, in_xs) in
    let P : X → Type 0 = λ a. R a (get_or xs j d) in
    let Q : X → Type 0 = λ b. R (get_or (xs ++ ys) i d) b in
    subst P (get_or_append_left xs ys d i i_in) (subst Q (get_or_append_left xs ys d j in_xs) (p i j d lt (omega (arith, in_xs, length-append xs ys))))

abbrev pub times : ℕ → List Handed → ℕ
times i hs = count_by (λ m. m == i) (numbers hs)

times-cons : (i : ℕ) (h : Handed) (hs : List Handed) → times i (h ∷ hs) ≡ cond (h.receipt.number == i) 1 0 + times i hs
times-cons i h hs = sum_by-cons (λ (m : ℕ). cond (m == i) 1 0) h.receipt.number (numbers hs)

counted : (i : ℕ) (h : Handed) (hs : List Handed) (b : Bool) → (h.receipt.number == i) ≡ b → times i (h ∷ hs) ≡ cond b 1 0 + times i hs
counted i h hs b e = times-cons i h hs ∙ ap (λ x. cond x 1 0 + times i hs) e

times-none : (hs : List Handed) (i : ℕ) → (Contains (numbers hs) i → ⊥) → times i hs ≡ 0
times-none [] i none = refl
times-none (h ∷ hs) i none =
    let other : (h.receipt.number == i) ≡ false = ne_eqb h.receipt.number i (λ e. none (0, omega arith, e)) in
    let rest : times i hs ≡ 0 = times-none hs i (λ c. none (Contains-append_right (h.receipt.number ∷ []) (numbers hs) i c)) in
    omega (arith, counted i h hs false other, rest)

pub times-one : (hs : List Handed) (i : ℕ) → AllPairs InOrder hs → Contains (numbers hs) i → times i hs ≡ 1
times-one [] i p c = absurd (omega (arith, c.1))
times-one (h ∷ hs) i p c =
    elim (cases_eq h.receipt.number i) as (λ _. times i (h ∷ hs) ≡ 1) [
      | inl e ↦
          let own : (h.receipt.number == i) ≡ true = eq-eqb h.receipt.number i e in
          let rest : times i hs ≡ 0 = times-none hs i (not_named hs i (λ k d lt q. (pairs_head InOrder h hs p k d lt).0 (e ∙ sym q))) in
          omega (arith, counted i h hs true own, rest)
      | inr other ↦
          let differs : (h.receipt.number == i) ≡ false = ne_eqb h.receipt.number i other in
          let rest : times i hs ≡ 1 = times-one hs i (pairs_tail InOrder h hs p) (later h hs i other c.0 c.1 c.2) in
          omega (arith, counted i h hs false differs, rest)
    ]
  where
    later : (h : Handed) (hs : List Handed) (i : ℕ) → (h.receipt.number ≡ i → ⊥) → (k : ℕ) → k < length (numbers (h ∷ hs)) → get_or (numbers (h ∷ hs)) k i ≡ i → Contains (numbers hs) i
    later h hs i other zero lt at = absurd (other at)
    later h hs i other (suc k) lt at = (k, omega (arith, lt), at)

pub entries-once : (n : ℕ) (log : List Entry) (ss : List Session) (i : ℕ) → AreEntries n log ss → i < length log → times i (handed ss) ≡ 1
entries-once n log ss i e lt = times-one (handed ss) i e.sound.order (e.each i lt)

-- the receipt of an entry
pub entries-each : (n : ℕ) (log : List Entry) (ss : List Session) (i : ℕ) → AreEntries n log ss → i < length log
    → Any (λ h. (h.receipt.number ≡ i) × (h.session < n) × (slice_get log i ≡ Some (entry_of h.session h.receipt))) (handed ss)
entries-each n log ss i e lt = found (handed ss) i e.sound.entries (e.each i lt)
  where
    found : (hs : List Handed) (i : ℕ) → All (IsEntry n log) hs → Contains (numbers hs) i
        → Any (λ h. (h.receipt.number ≡ i) × (h.session < n) × (slice_get log i ≡ Some (entry_of h.session h.receipt))) hs
    found [] i all c = absurd (omega (arith, c.1))
    found (h ∷ hs) i all c =
        let in_hs : c.0 < length (h ∷ hs) = omega (arith, c.1, length-map (h ∷ hs) (λ (x : Handed). x.receipt.number)) in
        let x : Handed = get_or (h ∷ hs) c.0 h in
        let same : x.receipt.number ≡ i =
        sym (get_or-map (λ (y : Handed). y.receipt.number) (h ∷ hs) c.0 h i in_hs) ∙ c.2 in
        let is : IsEntry n log x = all c.0 h in_hs in
        let P : ℕ → Type 0 = λ k. slice_get log k ≡ Some (entry_of x.session x.receipt) in
        (c.0, x, in_hs, get_or_default (h ∷ hs) c.0 x h in_hs, (same, is.0, subst P same is.1))

-- ---- ascending within each list

pub ascends : (p s : ℕ) (rs : List Receipt) → AllPairs InOrder (list_of p s rs) → IsStrictlyIncreasing (map (λ r. r.number) rs)
ascends p s [] order k lt = absurd (omega (arith, lt))
ascends p s (r ∷ rs) order k lt =
    let f : Receipt → Handed = λ x. hand p s x in
    let num : Receipt → ℕ = λ x. x.number in
    let all : List Receipt = r ∷ rs in
    let two : k + 1 < length all = omega (arith, lt, length-map all num) in
    let one : k < length all = omega (arith, two) in
    let o : InOrder (get_or (list_of p s all) k (f r)) (get_or (list_of p s all) (k + 1) (f r)) = order k (k + 1) (f r) (omega arith) (omega (arith, two, length-map all f)) in
    let P : Handed → Type 0 = λ a. InOrder a (get_or (list_of p s all) (k + 1) (f r)) in
    let Q : Handed → Type 0 = λ b. InOrder (f (get_or all k r)) b in
    let q : InOrder (f (get_or all k r)) (f (get_or all (k + 1) r)) = subst Q (get_or-map f all (k + 1) r (f r) two) (subst P (get_or-map f all k r (f r) one) o) in
    let less : (get_or all k r).number < (get_or all (k + 1) r).number = q.1 refl in
    let a : get_or (map num all) k 0 ≡ (get_or all k r).number = get_or-map num all k r 0 one in
    let b : get_or (map num all) (k + 1) 0 ≡ (get_or all (k + 1) r).number = get_or-map num all (k + 1) r 0 two in
    omega (arith, less, a, b)

lists_ascend : (p : ℕ) (ss : List Session) → AllPairs InOrder (handed_from p ss) → All (λ s. IsStrictlyIncreasing (map (λ r. r.number) s.receipts)) ss
lists_ascend p [] order = All-nil (λ (s : Session). IsStrictlyIncreasing (map (λ (r : Receipt). r.number) s.receipts))
lists_ascend p (s ∷ ss) order =
    All-cons (λ (s : Session). IsStrictlyIncreasing (map (λ (r : Receipt). r.number) s.receipts)) s ss
    (ascends p s.number s.receipts (pairs_front InOrder (list_of p s.number s.receipts) (handed_from (p + 1) ss) order))
    (lists_ascend (p + 1) ss (pairs_back InOrder (list_of p s.number s.receipts) (handed_from (p + 1) ss) order))

pub entries-ascend : (n : ℕ) (log : List Entry) (ss : List Session) → AreEntries n log ss → All (λ s. IsStrictlyIncreasing (map (λ r. r.number) s.receipts)) ss
entries-ascend n log ss e = lists_ascend 0 ss e.sound.order
