-- Names by their numbers. The bytes behind the first that differs count less than a difference of one there, so a smaller number
-- means a smaller name. Where the numbers are equal, so are the first eight bytes of names that have so many.
use Rattle.std.proofs.Common.{◌≡◌, ℕ, zero, suc, ◌+◌, ◌*◌, ◌^◌, ◌-◌, ◌<◌, ◌≤◌, inl, inr, refl, [], ◌∷◌, length, take, drop, ap, sym, ◌∙◌, arith}
use Rattle.std.specs.declared.cmp.Ordering.TheVariants.{Less, Equal, Greater}
use Rattle.std.specs.Ordering.{nat_cmp, ordering_then, ordering_reverse}
use Rattle.std.specs.Cmp.{nat_cmp_is}
use Rattle.std.proofs.lemmas.Bool.{cases_order}
use Rattle.std.proofs.lemmas.List.{take_rest}
use Rattle.std.proofs.lemmas.Nat.{mul-le, same_from_place}
use Rattle.flat_model.specs.Path.{Name, name_cmp}
use Rattle.flat_model.proofs.PathLaws.{name_cmp-IsTotalOrder}
use Rattle.group_tree.specs.NameNumber.{first_bytes, HasBytes, IsNumberOf}

one_more : (x p : ℕ) → (x + 1) * p ≡ x * p + p
one_more x p = grind (arith)

power_pos : (k : ℕ) → 0 < 256 ^ k
power_pos zero = omega arith
power_pos (suc k) = let h = power_pos k in omega (arith, h)

-- k bytes make less than one of the byte in front of them
below_next : (k : ℕ) (name : Name) → HasBytes k name → first_bytes k name < 256 ^ k
below_next zero name h = omega arith
below_next (suc k) [] h = power_pos (suc k)
below_next (suc k) (b ∷ name) h =
    let rest = below_next k name h.1 in
    let top = mul-le (b + 1) (256 ^ k) 256 (256 ^ k) (omega (arith, h.0)) (omega arith) in
    omega (arith, rest, top, one_more b (256 ^ k))

first_differs : (x y : ℕ) (a b : Name) → x < y → name_cmp (x ∷ a) (y ∷ b) ≡ Less
first_differs x y a b l = ap (λ r. ordering_then r (name_cmp a b)) (sym (nat_cmp_is x y Less l))

first_same : (x y : ℕ) (a b : Name) → x ≡ y → name_cmp (x ∷ a) (y ∷ b) ≡ name_cmp a b
first_same x y a b e = ap (λ r. ordering_then r (name_cmp a b)) (sym (nat_cmp_is x y Equal e))

-- ---- numbers that differ

smaller : (k : ℕ) (a b : Name) → HasBytes k b → first_bytes k a < first_bytes k b → name_cmp a b ≡ Less
smaller zero a b h l = absurd (omega (arith, l))
smaller (suc k) a [] h l = absurd (omega (arith, l))
smaller (suc k) [] (y ∷ b) h l = refl
smaller (suc k) (x ∷ a) (y ∷ b) h l =
    elim (cases_order x y) as (λ o. name_cmp (x ∷ a) (y ∷ b) ≡ Less) [
      | inl e ↦
          let front = ap (λ z. z * 256 ^ k) e in
          first_same x y a b e ∙ smaller k a b h.1 (omega (arith, l, front))
      | inr o ↦ elim o as (λ _. name_cmp (x ∷ a) (y ∷ b) ≡ Less) [
        | inl less ↦ first_differs x y a b less
        | inr more ↦
            let front = mul-le (y + 1) (256 ^ k) x (256 ^ k) (omega (arith, more)) (omega arith) in
            let rest = below_next k b h.1 in
            absurd (omega (arith, l, front, one_more y (256 ^ k), rest))
      ]
    ]

-- a smaller number means a smaller name
pub less_by_number : (a b : Name) (m n : ℕ) → IsNumberOf a m → IsNumberOf b n → m < n → name_cmp a b ≡ Less
less_by_number a b m n p q l = smaller 8 a b q.bytes (omega (arith, l, p.value, q.value))

-- and a greater number a greater name
pub greater_by_number : (a b : Name) (m n : ℕ) → IsNumberOf a m → IsNumberOf b n → n < m → name_cmp a b ≡ Greater
greater_by_number a b m n p q l = name_cmp-IsTotalOrder.antisymm a b ∙ ap ordering_reverse (less_by_number b a n m q p l)

-- ---- equal numbers

cmp_suc : (m n : ℕ) → nat_cmp m n ≡ nat_cmp (suc m) (suc n)
cmp_suc m n =
    elim (cases_order m n) as (λ o. nat_cmp m n ≡ nat_cmp (suc m) (suc n)) [
      | inl e ↦ sym (nat_cmp_is m n Equal e) ∙ nat_cmp_is (suc m) (suc n) Equal (ap suc e)
      | inr o ↦ elim o as (λ _. nat_cmp m n ≡ nat_cmp (suc m) (suc n)) [
        | inl less ↦ sym (nat_cmp_is m n Less less) ∙ nat_cmp_is (suc m) (suc n) Less (omega (arith, less))
        | inr more ↦ sym (nat_cmp_is m n Greater more) ∙ nat_cmp_is (suc m) (suc n) Greater (omega (arith, more))
      ]
    ]

-- the lengths decide where one name has no more than k bytes
by_length : (k : ℕ) (a b : Name) → HasBytes k a → HasBytes k b → first_bytes k a ≡ first_bytes k b → length a ≤ k
    → name_cmp a b ≡ nat_cmp (length a) (length b)
by_length k [] [] g h e l = refl
by_length k [] (y ∷ b) g h e l = nat_cmp_is 0 (suc (length b)) Less (omega arith)
by_length k (x ∷ a) [] g h e l = nat_cmp_is (suc (length a)) 0 Greater (omega arith)
by_length zero (x ∷ a) (y ∷ b) g h e l = absurd (omega (arith, l))
by_length (suc k) (x ∷ a) (y ∷ b) g h e l =
    let same = same_from_place x (first_bytes k a) y (first_bytes k b) (256 ^ k) (below_next k a g.1) (below_next k b h.1) e in
    first_same x y a b same.0 ∙ by_length k a b g.1 h.1 same.1 (omega (arith, l)) ∙ cmp_suc (length a) (length b)

-- else the bytes behind the first k
by_rest : (k : ℕ) (a b : Name) → HasBytes k a → HasBytes k b → first_bytes k a ≡ first_bytes k b → k ≤ length a → k ≤ length b
    → name_cmp a b ≡ name_cmp (drop k a) (drop k b)
by_rest zero a b g h e l m = refl
by_rest (suc k) [] b g h e l m = absurd (omega (arith, l))
by_rest (suc k) (x ∷ a) [] g h e l m = absurd (omega (arith, m))
by_rest (suc k) (x ∷ a) (y ∷ b) g h e l m =
    let same = same_from_place x (first_bytes k a) y (first_bytes k b) (256 ^ k) (below_next k a g.1) (below_next k b h.1) e in
    first_same x y a b same.0 ∙ by_rest k a b g.1 h.1 same.1 (omega (arith, l)) (omega (arith, m))

pub short_first : (a b : Name) (n : ℕ) → IsNumberOf a n → IsNumberOf b n → length a ≤ 8 → name_cmp a b ≡ nat_cmp (length a) (length b)
short_first a b n p q l = by_length 8 a b p.bytes q.bytes (sym p.value ∙ q.value) l

pub short_second : (a b : Name) (n : ℕ) → IsNumberOf a n → IsNumberOf b n → 8 < length a → length b ≤ 8 → name_cmp a b ≡ Greater
short_second a b n p q l m =
    name_cmp-IsTotalOrder.antisymm a b ∙ ap ordering_reverse (short_first b a n q p m ∙ sym (nat_cmp_is (length b) (length a) Less (omega (arith, l, m))))

-- as two slices from the eighth byte on have them
pub both_long : (a b : Name) (n : ℕ) → IsNumberOf a n → IsNumberOf b n → 8 < length a → 8 < length b
    → name_cmp a b ≡ name_cmp (take (length a - 8) (drop 8 a)) (take (length b - 8) (drop 8 b))
both_long a b n p q l m =
    by_rest 8 a b p.bytes q.bytes (sym p.value ∙ q.value) (omega (arith, l)) (omega (arith, m))
    ∙ sym (ap (λ (x : Name). name_cmp x (take (length b - 8) (drop 8 b))) (take_rest a 8) ∙ ap (name_cmp (drop 8 a)) (take_rest b 8))
