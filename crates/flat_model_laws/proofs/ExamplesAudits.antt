-- Small steps over written-out lists.
use Rattle.std.proofs.Common.{◌≡◌, ◌≢◌, ℕ, ◌<◌, inl, inr, suc, zero, List, [], ◌∷◌, Some, slice_get, refl, sym, ap, arith}
use Rattle.std.specs.List.{All, Contains}
use Rattle.std.proofs.lemmas.List.Elements.{All-nil, All-cons}
use Rattle.std.proofs.lemmas.Option.{same_Some}
use Rattle.flat_model.specs.Log.{Entry}
use Rattle.flat_model_laws.specs.AuditExamples.{Exchange, entry, receipt, session, three}
use Rattle.flat_model.specs.Audit.{Stranger, Mismatch, Missing, Handed, IsEntry, InOrder, AreSound, AreEntries, FirstFault}
use Rattle.flat_model.proofs.AuditSound.{sound_more, sound_none, hand, not_named}
use Rattle.flat_model_laws.proofs.AuditLaws.{known_no_stranger}

abbrev H : ℕ → ℕ → ℕ → Exchange → Handed
H list k i x = hand list k (receipt i x)

none_before : (h : Handed) → All (λ e. InOrder e h) []
none_before h = All-nil (λ (e : Handed). InOrder e h)

one_before : (e h : Handed) → InOrder e h → All (λ e. InOrder e h) (e ∷ [])
one_before e h o = All-cons (λ (x : Handed). InOrder x h) e [] o (none_before h)

two_before : (d e h : Handed) → InOrder d h → InOrder e h → All (λ e. InOrder e h) (d ∷ e ∷ [])
two_before d e h o p = All-cons (λ (x : Handed). InOrder x h) d (e ∷ []) o (one_before e h p)

-- the first receipt of session k, in any list
first : (log : List Entry) (list k i : ℕ) (x : Exchange) → k < 2 → slice_get log i ≡ Some (entry k x) → AreSound 2 log (H list k i x ∷ [])
first log list k i x lt is = sound_more 2 log [] (H list k i x) (sound_none 2 log) (record { entry = (lt, is); order = none_before (H list k i x) })

second : (log : List Entry) (e h : Handed) → AreSound 2 log (e ∷ []) → IsEntry 2 log h → InOrder e h → AreSound 2 log (e ∷ h ∷ [])
second log e h s is o = sound_more 2 log (e ∷ []) h s (record { entry = is; order = one_before e h o })

third : (log : List Entry) (d e h : Handed) → AreSound 2 log (d ∷ e ∷ []) → IsEntry 2 log h → InOrder d h → InOrder e h → AreSound 2 log (d ∷ e ∷ h ∷ [])
third log d e h s is o p = sound_more 2 log (d ∷ e ∷ []) h s (record { entry = is; order = two_before d e h o p })

named0 : (x y : ℕ) (xs : List ℕ) → x ≡ y → Contains (x ∷ xs) y
named0 x y xs e = (0, omega arith, e)

named1 : (w x y : ℕ) (xs : List ℕ) → x ≡ y → Contains (w ∷ x ∷ xs) y
named1 w x y xs e = (1, omega arith, e)

named2 : (v w x y : ℕ) (xs : List ℕ) → x ≡ y → Contains (v ∷ w ∷ x ∷ xs) y
named2 v w x y xs e = (2, omega arith, e)

below_three : (P : ℕ → Type 0) → P 0 → P 1 → P 2 → (i : ℕ) → i < 3 → P i
below_three P a b c zero lt = a
below_three P a b c (suc zero) lt = b
below_three P a b c (suc (suc zero)) lt = c
below_three P a b c (suc (suc (suc i))) lt = absurd (omega (arith, lt))

below_two : (P : ℕ → Type 0) → P 0 → P 1 → (i : ℕ) → i < 2 → P i
below_two P a b zero lt = a
below_two P a b (suc zero) lt = b
below_two P a b (suc (suc i)) lt = absurd (omega (arith, lt))

below_one : (P : ℕ → Type 0) → P 0 → (i : ℕ) → i < 1 → P i
below_one P a zero lt = a
below_one P a (suc i) lt = absurd (omega (arith, lt))

-- session 0's two receipts
pub zero_two : (a b c : Exchange) → AreSound 2 (three a b c) (H 0 0 0 a ∷ H 0 0 2 c ∷ [])
zero_two a b c = second (three a b c) (H 0 0 0 a) (H 0 0 2 c) (first (three a b c) 0 0 0 a (omega arith) refl) (omega arith, refl) ((let ne : 0 ≢ 2 = omega arith in ne), λ _. omega arith)

pub all_given : (a b c : Exchange) → AreEntries 2 (three a b c) (session 0 (receipt 0 a ∷ receipt 2 c ∷ []) ∷ session 1 (receipt 1 b ∷ []) ∷ [])
all_given a b c = record {
  sound = third (three a b c) (H 0 0 0 a) (H 0 0 2 c) (H 1 1 1 b) (zero_two a b c) (omega arith, refl)
      ((let ne : 0 ≢ 1 = omega arith in ne), λ e. absurd (omega (arith, e))) ((let ne : 2 ≢ 1 = omega arith in ne), λ e. absurd (omega (arith, e)));
  each = below_three (λ i. Contains (0 ∷ 2 ∷ 1 ∷ []) i) (named0 0 0 (2 ∷ 1 ∷ []) refl) (named2 0 2 1 1 [] refl) (named1 0 2 2 (1 ∷ []) refl);
}

pub all_turned : (a b c : Exchange) → AreEntries 2 (three a b c) (session 1 (receipt 1 b ∷ []) ∷ session 0 (receipt 0 a ∷ receipt 2 c ∷ []) ∷ [])
all_turned a b c = record {
  sound = third (three a b c) (H 0 1 1 b) (H 1 0 0 a) (H 1 0 2 c)
      (second (three a b c) (H 0 1 1 b) (H 1 0 0 a) (first (three a b c) 0 1 1 b (omega arith) refl) (omega arith, refl) ((let ne : 1 ≢ 0 = omega arith in ne), λ e. absurd (omega (arith, e))))
      (omega arith, refl) ((let ne : 1 ≢ 2 = omega arith in ne), λ e. absurd (omega (arith, e))) ((let ne : 0 ≢ 2 = omega arith in ne), λ e. omega arith);
  each = below_three (λ i. Contains (1 ∷ 0 ∷ 2 ∷ []) i) (named1 1 0 0 (2 ∷ []) refl) (named0 1 1 (0 ∷ 2 ∷ []) refl) (named2 1 0 2 2 [] refl);
}

pub taken_out : (a b c : Exchange) → FirstFault 2 (three a b c) (session 0 (receipt 0 a ∷ []) ∷ session 1 (receipt 1 b ∷ []) ∷ []) (Missing 2)
taken_out a b c = (
  second (three a b c) (H 0 0 0 a) (H 1 1 1 b) (first (three a b c) 0 0 0 a (omega arith) refl) (omega arith, refl) ((let ne : 0 ≢ 1 = omega arith in ne), λ e. absurd (omega (arith, e))),
  omega arith,
  not_named (H 0 0 0 a ∷ H 1 1 1 b ∷ []) 2 (All-cons (λ (e : Handed). e.receipt.number ≢ 2) (H 0 0 0 a) (H 1 1 1 b ∷ [])
      (let ne : 0 ≢ 2 = omega arith in ne) (All-cons (λ (e : Handed). e.receipt.number ≢ 2) (H 1 1 1 b) [] (let ne : 1 ≢ 2 = omega arith in
      ne) (All-nil (λ (e : Handed). e.receipt.number ≢ 2)))),
  below_two (λ i. Contains (0 ∷ 1 ∷ []) i) (named0 0 0 (1 ∷ []) refl) (named1 0 1 1 [] refl),
)

pub changed : (a b c x : Exchange) → x.reply ≢ b.reply → FirstFault 2 (three a b c) (session 0 (receipt 0 a ∷ receipt 2 c ∷ []) ∷ session 1 (receipt 1 x ∷ []) ∷ []) (Mismatch 1)
changed a b c x other = (
  H 0 0 0 a ∷ H 0 0 2 c ∷ [],
  H 1 1 1 x,
  record { rest = []; split = refl; sound = zero_two a b c },
  known_no_stranger 2 (three a b c) (H 0 0 0 a ∷ H 0 0 2 c ∷ []) (H 1 1 1 x) (omega arith) (omega arith)
      (two_before (H 0 0 0 a) (H 0 0 2 c) (H 1 1 1 x) ((let ne : 0 ≢ 1 = omega arith in ne), λ e. absurd (omega (arith, e))) ((let ne : 2 ≢ 1 = omega arith in ne), λ e. absurd (omega (arith, e)))),
  λ q. other (sym (ap (λ (e : Entry). e.reply) (same_Some (entry 1 b) (entry 1 x) q))),
  refl,
)

pub copied : (a b c : Exchange) → FirstFault 2 (three a b c) (session 0 (receipt 0 a ∷ receipt 2 c ∷ []) ∷ session 1 (receipt 1 b ∷ receipt 0 a ∷ []) ∷ []) (Stranger 1)
copied a b c = (
  H 0 0 0 a ∷ H 0 0 2 c ∷ H 1 1 1 b ∷ [],
  H 1 1 0 a,
  record { rest = []; split = refl; sound = (all_given a b c).sound },
  inr (inr (inl (named0 0 0 (2 ∷ 1 ∷ []) refl))),
  refl,
)

pub exchanged : (a b c : Exchange) → FirstFault 2 (three a b c) (session 0 (receipt 2 c ∷ receipt 0 a ∷ []) ∷ session 1 (receipt 1 b ∷ []) ∷ []) (Stranger 0)
exchanged a b c = (
  H 0 0 2 c ∷ [],
  H 0 0 0 a,
  record { rest = H 1 1 1 b ∷ []; split = refl; sound = first (three a b c) 0 0 2 c (omega arith) refl },
  inr (inr (inr (0, H 0 0 2 c, omega arith, refl, (refl, omega arith)))),
  refl,
)

pub past_the_log : (a b c : Exchange) → FirstFault 2 (three a b c) (session 0 (receipt 0 a ∷ receipt 3 c ∷ []) ∷ session 1 (receipt 1 b ∷ []) ∷ []) (Stranger 0)
past_the_log a b c = (
  H 0 0 0 a ∷ [],
  H 0 0 3 c,
  record { rest = H 1 1 1 b ∷ []; split = refl; sound = first (three a b c) 0 0 0 a (omega arith) refl },
  inr (inl (omega arith)),
  refl,
)

pub renumbered : (a : Exchange) → FirstFault 2 (entry 0 a ∷ []) (session 2 (receipt 0 a ∷ []) ∷ session 1 [] ∷ []) (Stranger 2)
renumbered a = ([], H 0 2 0 a, record { rest = []; split = refl; sound = sound_none 2 (entry 0 a ∷ []) }, inl (omega arith), refl)

pub other_alone : (a : Exchange) → FirstFault 2 (entry 0 a ∷ []) (session 1 [] ∷ []) (Missing 0)
other_alone a = (sound_none 2 (entry 0 a ∷ []), omega arith, λ c. omega (arith, c.1), λ j lt. absurd (omega (arith, lt)))

pub alone : (a : Exchange) → AreEntries 2 (entry 0 a ∷ []) (session 0 (receipt 0 a ∷ []) ∷ [])
alone a = record {
  sound = first (entry 0 a ∷ []) 0 0 0 a (omega arith) refl;
  each = below_one (λ i. Contains (0 ∷ []) i) (named0 0 0 [] refl);
}

pub without_receipts : (a : Exchange) → AreEntries 2 (entry 0 a ∷ []) (session 7 [] ∷ session 0 (receipt 0 a ∷ []) ∷ [])
without_receipts a = record {
  sound = first (entry 0 a ∷ []) 1 0 0 a (omega arith) refl;
  each = below_one (λ i. Contains (0 ∷ []) i) (named0 0 0 [] refl);
}

pub several : (a b c x : Exchange) → x.reply ≢ a.reply → FirstFault 2 (three a b c) (session 0 (receipt 0 x ∷ receipt 0 a ∷ []) ∷ session 7 (receipt 1 b ∷ []) ∷ []) (Mismatch 0)
several a b c x other = (
  [],
  H 0 0 0 x,
  record { rest = H 0 0 0 a ∷ H 1 7 1 b ∷ []; split = refl; sound = sound_none 2 (three a b c) },
  known_no_stranger 2 (three a b c) [] (H 0 0 0 x) (omega arith) (omega arith) (none_before (H 0 0 0 x)),
  λ q. other (sym (ap (λ (e : Entry). e.reply) (same_Some (entry 0 a) (entry 0 x) q))),
  refl,
)
