-- The audit, list by list.
use Rattle.std.proofs.Common.{◌≡◌, ◌∙◌, ℕ, ◌+◌, ◌<◌, ◌≤◌, inl, List, [], ◌∷◌, ◌++◌, take, drop, length, Bool, true, slice_index_or, get_or, refl, sym, ap, subst, arith}
use Rattle.std.specs.List.{All}
use Rattle.std.proofs.lemmas.List.{append-nil, append_assoc, map-append, map_push, take_all, take_more, take-append-drop, drop_more, length-take-le}
use Rattle.std.proofs.lemmas.List.Elements.{All-append, All-nil, All-cons, All-weaker}
use Rattle.std.proofs.lemmas.Bool.{false≢true}
use Rattle.flat_model.specs.Log.{Entry, Receipt, Session}
use Rattle.flat_model.specs.Audit as model
use Rattle.flat_model.specs.Audit.{Handed, list_of, handed_from, handed, AreEntries, FirstFault}
use Rattle.flat_model.proofs.AuditSound.{sound_none, hand}
use Rattle.sessions.specs.declared.fault.CloseFault.{CloseFault}
use Rattle.sessions.specs.Faults.{IsFirstFault}
use Rattle.sessions.specs.Marks.{Audited, AllClear, IsRefusedBy, IsFirstClear}
use Rattle.sessions.proofs.AuditSteps.{Walk, walk_refused}

-- ---- list after list

pub handed-append : (p : ℕ) (xs ys : List Session) → handed_from p (xs ++ ys) ≡ handed_from p xs ++ handed_from (p + length xs) ys
handed-append p [] ys = let e : p ≡ p + 0 = omega arith in ap (λ q. handed_from q ys) e
handed-append p (x ∷ xs) ys =
    let e : (p + 1) + length xs ≡ p + length (x ∷ xs) = omega arith in
    ap (λ t. list_of p x.number x.receipts ++ t) (handed-append (p + 1) xs ys ∙ ap (λ q. handed_from (p + 1) xs ++ handed_from q ys) e)
    ∙ sym (append_assoc (list_of p x.number x.receipts) (handed_from (p + 1) xs) (handed_from (p + length (x ∷ xs)) ys))

-- each list has its place
places : (p : ℕ) (ss : List Session) → All (λ e. e.list < p + length ss) (handed_from p ss)
places p [] = All-nil (λ (e : Handed). e.list < p + 0)
places p (s ∷ ss) =
    let P : Handed → Type 0 = λ e. e.list < p + length (s ∷ ss) in
    let Q : Handed → Type 0 = λ e. e.list < (p + 1) + length ss in
    All-append P (list_of p s.number s.receipts) (handed_from (p + 1) ss) (own p s.number s.receipts (p + length (s ∷ ss)) (omega arith))
    (All-weaker Q P (λ e lt. omega (arith, lt)) (handed_from (p + 1) ss) (places (p + 1) ss))
  where
    own : (p k : ℕ) (rs : List Receipt) (end : ℕ) → p < end → All (λ e. e.list < end) (list_of p k rs)
    own p k [] end lt = All-nil (λ (e : Handed). e.list < end)
    own p k (r ∷ rs) end lt = All-cons (λ (e : Handed). e.list < end) (hand p k r) (list_of p k rs) lt (own p k rs end lt)

-- what was handed in before the receipt j of the list at this place
abbrev pub so_far : List Session → ℕ → ℕ → List Receipt → ℕ → List Handed
so_far ss place session rs j = handed (take place ss) ++ list_of place session (take j rs)

pub walk_none : (n : ℕ) (log : List Entry) (marks : List Bool) (ss : List Session) (place session : ℕ) (rs : List Receipt)
    → place < length ss → Audited n log marks (handed (take place ss)) → Walk n log place 0 marks (so_far ss place session rs 0)
walk_none n log marks ss place session rs lt a =
    let hs : List Handed = handed (take place ss) in
    let P : List Handed → Type 0 = λ xs. Walk n log place 0 marks xs in
    let Before : Handed → Type 0 = λ e. e.list < 0 + length (take place ss) in
    let Other : Handed → Type 0 = λ e. e.list ≡ place → e.receipt.number < 0 in
    let len : length (take place ss) ≤ place = omega (arith, length-take-le place ss (omega (arith, lt))) in
    subst P (sym (append-nil hs)) (record {
      audited = a;
      above = All-weaker Before Other (λ e before same. absurd (omega (arith, before, same, len))) hs (places 0 (take place ss));
      last = inl refl;
    })

pub so_far_more : (ss : List Session) (place session : ℕ) (rs : List Receipt) (j : ℕ) (r : Receipt) → j < length rs → r ≡ get_or rs j r
    → so_far ss place session rs j ++ hand place session r ∷ [] ≡ so_far ss place session rs (j + 1)
so_far_more ss place session rs j r lt at =
    append_assoc (handed (take place ss)) (list_of place session (take j rs)) (hand place session r ∷ [])
    ∙ ap (λ t. handed (take place ss) ++ t) (
    sym (map_push (λ (x : Receipt). hand place session x) (take j rs) r)
    ∙ ap (λ xs. list_of place session xs) (ap (λ x. take j rs ++ x ∷ []) at ∙ sym (take_more rs j r lt)))

handed_at : (ss : List Session) (place : ℕ) (s : Session) → place < length ss → s ≡ get_or ss place s
    → handed ss ≡ handed (take place ss) ++ (list_of place s.number s.receipts ++ handed_from (place + 1) (drop (place + 1) ss))
handed_at ss place s lt at =
    let cut : ss ≡ take place ss ++ s ∷ drop (place + 1) ss = sym (take-append-drop place ss) ∙ ap (λ t. take place ss ++ t) (drop_more ss place s lt ∙ ap (λ x. x ∷ drop (place + 1) ss) (sym at)) in
    let e : 0 + length (take place ss) ≡ place = omega (arith, length-take-le place ss (omega (arith, lt))) in
    ap handed cut ∙ handed-append 0 (take place ss) (s ∷ drop (place + 1) ss)
    ∙ ap (λ q. handed (take place ss) ++ handed_from q (s ∷ drop (place + 1) ss)) e

-- the receipts before this one, this one, and the others
pub handed_split : (ss : List Session) (place : ℕ) (s : Session) (rs : List Receipt) (j : ℕ) (r : Receipt)
    → place < length ss → s ≡ get_or ss place s → rs ≡ s.receipts → j < length rs → r ≡ get_or rs j r
    → handed ss ≡ so_far ss place s.number rs j ++ hand place s.number r ∷ (list_of place s.number (drop (j + 1) rs) ++ handed_from (place + 1) (drop (place + 1) ss))
handed_split ss place s rs j r lt at same in_rs is =
    let f : Receipt → Handed = λ x. hand place s.number x in
    let more : List Handed = handed_from (place + 1) (drop (place + 1) ss) in
    let cut : rs ≡ take j rs ++ r ∷ drop (j + 1) rs = sym (take-append-drop j rs) ∙ ap (λ t. take j rs ++ t) (drop_more rs j r in_rs ∙ ap (λ x. x ∷ drop (j + 1) rs) (sym is)) in
    let own : list_of place s.number s.receipts ≡ list_of place s.number (take j rs) ++ hand place s.number r ∷ list_of place s.number (drop (j + 1) rs) =
    ap (λ xs. list_of place s.number xs) (sym same ∙ cut) ∙ map-append f (take j rs) (r ∷ drop (j + 1) rs) in
    handed_at ss place s lt at
    ∙ ap (λ t. handed (take place ss) ++ (t ++ more)) own
    ∙ ap (λ t. handed (take place ss) ++ t) (append_assoc (list_of place s.number (take j rs)) (hand place s.number r ∷ list_of place s.number (drop (j + 1) rs)) more)
    ∙ sym (append_assoc (handed (take place ss)) (list_of place s.number (take j rs)) (hand place s.number r ∷ (list_of place s.number (drop (j + 1) rs) ++ more)))

-- the whole list was gone over
pub walk_whole : (n : ℕ) (log : List Entry) (least : ℕ) (marks : List Bool) (ss : List Session) (place : ℕ) (s : Session) (rs : List Receipt) (j : ℕ)
    → place < length ss → s ≡ get_or ss place s → rs ≡ s.receipts → length rs ≤ j
    → Walk n log place least marks (so_far ss place s.number rs j) → Audited n log marks (handed (take (place + 1) ss))
walk_whole n log least marks ss place s rs j lt at same all w =
    let e : 0 + length (take place ss) ≡ place = omega (arith, length-take-le place ss (omega (arith, lt))) in
    let whole : so_far ss place s.number rs j ≡ handed (take (place + 1) ss) =
    ap (λ xs. handed (take place ss) ++ list_of place s.number xs) (take_all j rs all ∙ same)
    ∙ ap (λ t. handed (take place ss) ++ t) (sym (append-nil (list_of place s.number s.receipts)))
    ∙ ap (λ q. handed (take place ss) ++ handed_from q (s ∷ [])) (sym e)
    ∙ sym (handed-append 0 (take place ss) (s ∷ []))
    ∙ ap handed (ap (λ x. take place ss ++ x ∷ []) at ∙ sym (take_more ss place s lt)) in
    let P : List Handed → Type 0 = λ xs. Audited n log marks xs in
    subst P whole w.audited

-- ---- the end

pub audited_none : (n : ℕ) (log : List Entry) (marks : List Bool) → AllClear (length log) marks → Audited n log marks []
audited_none n log marks none = record {
  size = none.0;
  sound = sound_none n log;
  marked = λ i lt on. absurd (false≢true (sym (none.1 i lt) ∙ on));
  clear = λ i lt off named. omega (arith, named.1);
}

pub audited_whole : (n : ℕ) (log : List Entry) (marks : List Bool) (ss : List Session) (i : ℕ) → length ss ≤ i → Audited n log marks (handed (take i ss)) → Audited n log marks (handed ss)
audited_whole n log marks ss i all a =
    let P : List Session → Type 0 = λ xs. Audited n log marks (handed xs) in
    subst P (take_all i ss all) a

pub all_entries : (n : ℕ) (log : List Entry) (marks : List Bool) (ss : List Session) → Audited n log marks (handed ss)
    → ((i : ℕ) → i < length marks → slice_index_or marks i true ≡ true) → AreEntries n log ss
all_entries n log marks ss a full = record {
  sound = a.sound;
  each = λ i lt. a.marked i lt (full i (omega (arith, a.size, lt)));
}

pub first_missing : (n : ℕ) (log : List Entry) (marks : List Bool) (ss : List Session) (i : ℕ) → Audited n log marks (handed ss) → IsFirstClear marks i
    → FirstFault n log ss (model.Missing i)
first_missing n log marks ss i a first =
    let lt : i < length log = (let e : i < length marks = first.0 in omega (arith, a.size, e)) in
    (a.sound, lt, a.clear i lt first.1, λ j below. a.marked j (omega (arith, lt, below)) (first.2 j below))

-- ---- the same, where the session's number has a name of its own

pub refused_at : (n : ℕ) (log : List Entry) (least : ℕ) (marks : List Bool) (ss : List Session) (place : ℕ) (s : Session) (session : ℕ) (rs : List Receipt) (j : ℕ) (r : Receipt) (f : CloseFault)
    → place < length ss → s ≡ get_or ss place s → s.number ≡ session → rs ≡ s.receipts → j < length rs → r ≡ get_or rs j r
    → Walk n log place least marks (so_far ss place session rs j) → IsRefusedBy n log marks session least r f → IsFirstFault n log ss f
refused_at n log least marks ss place s session rs j r f lt at number same in_rs is w why =
    let P : ℕ → Type 0 = λ k. handed ss ≡ so_far ss place k rs j ++ hand place k r ∷ (list_of place k (drop (j + 1) rs) ++ handed_from (place + 1) (drop (place + 1) ss)) in
    walk_refused n log place least marks (so_far ss place session rs j) (list_of place session (drop (j + 1) rs) ++ handed_from (place + 1) (drop (place + 1) ss)) session r ss f
    w (subst P number (handed_split ss place s rs j r lt at same in_rs is)) why

pub whole_at : (n : ℕ) (log : List Entry) (least : ℕ) (marks : List Bool) (ss : List Session) (place : ℕ) (s : Session) (session : ℕ) (rs : List Receipt) (j : ℕ)
    → place < length ss → s ≡ get_or ss place s → s.number ≡ session → rs ≡ s.receipts → length rs ≤ j
    → Walk n log place least marks (so_far ss place session rs j) → Audited n log marks (handed (take (place + 1) ss))
whole_at n log least marks ss place s session rs j lt at number same all w =
    let P : ℕ → Type 0 = λ k. Walk n log place least marks (so_far ss place k rs j) in
    walk_whole n log least marks ss place s rs j lt at same all (subst P (sym number) w)
