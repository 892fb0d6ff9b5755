-- A list is cut into runs of almost equal lengths.
use Rattle.std.proofs.Common.{◌≡◌, ℕ, zero, suc, ◌+◌, ◌-◌, ◌*◌, ◌/◌, ◌<◌, ◌≤◌, List, [], ◌∷◌, ◌++◌, length, take, length-take, length-drop, refl, sym, ap, subst, ◌∙◌, arith}
use Rattle.std.proofs.Math.Nat.{lt-div-mul-add, div-add-mod, lt_of_mul-lt-mul_right}
use Rattle.std.proofs.lemmas.List.{take-append-drop}
use Rattle.std.specs.List.{AllByRecursion}
use Rattle.snzi_tokens.specs.declared.token.Token.{Token}
use Rattle.snzi_tokens.specs.Listed.{listed_at}
use Rattle.pids_charge.specs.Content.{Content}
use Rattle.pids_charge.specs.Parts.{but_last_run, in_parts, parts_for, the_last_run}
use Rattle.pids_charge.proofs.InParts.{parts_settle}
use Rattle.charge_laws.specs.Cuts.{AreEven, IsBefore, joined, runs}

pub each_part : (n : ℕ) → 2 ≤ n → n ≤ 8 → parts_for n ≡ n
each_part n l h = omega (arith, l, h)

pub eight_parts : (n : ℕ) → 8 ≤ n → parts_for n ≡ 8
eight_parts n h = omega (arith, h)

-- ---- the runs are the list

none_before : (ts : List Token) → but_last_run 1 ts ≡ []
none_before ts = let k : length ts - length ts / 1 ≡ 0 = omega (arith, lt-div-mul-add {a = length ts} {b = 1} (omega arith)) in ap (λ i. take i ts) k

pub cut_is : (n : ℕ) (ts : List Token) → joined (runs (suc n) ts) ≡ ts
cut_is zero ts = ap (λ xs. xs ++ the_last_run 1 ts) (sym (none_before ts)) ∙ take-append-drop (length ts - length ts / 1) ts
cut_is (suc n) ts = ap (λ xs. xs ++ the_last_run (suc (suc n)) ts) (cut_is n (but_last_run (suc (suc n)) ts)) ∙ take-append-drop (length ts - length ts / (suc (suc n))) ts

pub many_are : (n : ℕ) (ts : List Token) → length (runs n ts) ≡ n
many_are zero ts = refl
many_are (suc n) ts = ap suc (many_are n (but_last_run (suc n) ts))

-- ---- their lengths

-- the length of one of n runs of a list of length l: l / n, rounded down or up
record Rounds (l n x : ℕ) : Type 0 where
  down : l < (x + 1) * n
  up : x * n < l + n

abbrev AllRound : ℕ → ℕ → List (List Token) → Type 0
AllRound l n = AllByRecursion (λ run. Rounds l n (length run))

quotient_small : (l n : ℕ) → l / suc n ≤ l
quotient_small l n = omega (arith, div-add-mod l (suc n))

last_length : (n : ℕ) (ts : List Token) → length (the_last_run (suc n) ts) ≡ length ts / suc n
last_length n ts = omega (arith, length-drop (length ts - length ts / suc n) ts, quotient_small (length ts) n)

before_length : (n : ℕ) (ts : List Token) → length (but_last_run (suc n) ts) ≡ length ts - length ts / suc n
before_length n ts = omega (arith, length-take (length ts - length ts / suc n) ts)

-- the quotient, without a division
record Quotient (l n q : ℕ) : Type 0 where
  least : q * n ≤ l
  most : l < q * n + n

quotient_is : (l n : ℕ) → Quotient l (suc n) (l / suc n)
quotient_is l n = record { least = omega (arith, div-add-mod l (suc n)); most = lt-div-mul-add {a = l} {b = suc n} (omega arith) }

-- a run of the others, beside the last one of length q
step : (l n q x : ℕ) → Quotient l (suc n) q → Rounds (l - q) n x → (q ≤ x) × (x ≤ q + 1) × Rounds l (suc n) x
step l n q x k r =
    let lower : q < x + 1 = lt_of_mul-lt-mul_right n (omega (arith, k.least, r.down)) in
    let upper : x < q + 2 = lt_of_mul-lt-mul_right n (omega (arith, k.most, k.least, r.up)) in
    (omega (arith, lower), omega (arith, upper), record { down = omega (arith, k.least, r.down, lower); up = omega (arith, k.least, r.up, upper) })

even_from : (l n : ℕ) (last : List Token) (rs : List (List Token)) → Quotient l (suc n) (length last) → AllRound (l - length last) n rs
    → AllByRecursion (IsBefore last) rs × AllRound l (suc n) rs
even_from l n last [] k a = (tt, tt)
even_from l n last (r ∷ rs) k a =
    let s = step l n (length last) (length r) k a.0 in
    let rest = even_from l n last rs k a.1 in
    (((s.0, s.1), rest.0), (s.2, rest.1))

last_quotient : (n : ℕ) (ts : List Token) → Quotient (length ts) (suc n) (length (the_last_run (suc n) ts))
last_quotient n ts = subst (λ (q : ℕ). Quotient (length ts) (suc n) q) (sym (last_length n ts)) (quotient_is (length ts) n)

before_rounds : (n : ℕ) (ts : List Token) → AllRound (length (but_last_run (suc n) ts)) n (runs n (but_last_run (suc n) ts))
    → AllRound (length ts - length (the_last_run (suc n) ts)) n (runs n (but_last_run (suc n) ts))
before_rounds n ts = subst (λ (l : ℕ). AllRound l n (runs n (but_last_run (suc n) ts))) (before_length n ts ∙ ap (λ q. length ts - q) (sym (last_length n ts)))

rounds_are : (n : ℕ) (ts : List Token) → AllRound (length ts) n (runs n ts)
rounds_are zero ts = tt
rounds_are (suc n) ts =
    let k = last_quotient n ts in
    let earlier = before_rounds n ts (rounds_are n (but_last_run (suc n) ts)) in
    (record { down = omega (arith, k.most); up = omega (arith, k.least) }, (even_from (length ts) n (the_last_run (suc n) ts) (runs n (but_last_run (suc n) ts)) k earlier).1)

pub even_are : (n : ℕ) (ts : List Token) → AreEven (runs n ts)
even_are zero ts = tt
even_are (suc n) ts =
    let earlier = before_rounds n ts (rounds_are n (but_last_run (suc n) ts)) in
    ((even_from (length ts) n (the_last_run (suc n) ts) (runs n (but_last_run (suc n) ts)) (last_quotient n ts) earlier).0, even_are n (but_last_run (suc n) ts))

-- ---- parts

pub parts_are : (helpers : ℕ) (leaving arriving : List Token) (at : Content) → ((s j : ℕ) → listed_at leaving s j ≤ at s j)
    → (s j : ℕ) → in_parts helpers leaving arriving at s j ≡ at s j - listed_at leaving s j + listed_at arriving s j
parts_are helpers leaving arriving at there s j =
    sym (parts_settle helpers leaving arriving at (λ s j. at s j - listed_at leaving s j + listed_at arriving s j) there (λ s j. omega (arith, there s j)) s j)
