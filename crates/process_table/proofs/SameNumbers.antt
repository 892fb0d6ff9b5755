-- Ascending lists that have each number as often are the same.
use Rattle.std.proofs.Common.{◌≡◌, ℕ, suc, ◌<◌, ◌≤◌, true, false, cond, eqb, List, [], ◌∷◌, count_by, get_or, refl, sym, ap, subst, arith}
use Rattle.std.specs.List.{All}
use Rattle.std.specs.List.Sorted.{IsNonDecreasing, IsSorted, IsPermutation}
use Rattle.std.specs.Ordering.{nat_cmp, is_lt}
use Rattle.std.specs.Cmp.{nat_cmp_total}
use Rattle.std.proofs.lemmas.Bool.{eqb-true, eq-eqb}
use Rattle.std.proofs.lemmas.List.Elements.{All-head, All-tail}
use Rattle.std.proofs.lemmas.List.Sorted.{sorted_far, ranks_by, sum_by-IsPermutation}
use Rattle.std.proofs.lemmas.Map.Keys.{ge_from_not_lt}
use Rattle.process_table.proofs.RowLaws.{count-same, count-other}
use Rattle.flat_model.proofs.Sums.{count_by-cons}

-- a number that is counted is not below all
counted_from : (y q : ℕ) (ys : List ℕ) → All (λ z. y ≤ z) ys → 0 < count_by (eqb q) ys → y ≤ q
counted_from y q [] h c = absurd (omega (arith, c))
counted_from y q (z ∷ ys) h c =
    elim (eqb q z) as (λ b. eqb q z ≡ b → y ≤ q) [
      | true ↦ λ e. let same : q ≡ z = eqb-true q z e in let first : y ≤ z = All-head (λ z. y ≤ z) z ys h in omega arith
      | false ↦ λ e. counted_from y q ys (All-tail (λ z. y ≤ z) z ys h) (subst (λ n. 0 < n) (count-other q z ys e) c)
    ] refl

first_least : (y : ℕ) (ys : List ℕ) → IsNonDecreasing (y ∷ ys) → All (λ z. y ≤ z) (y ∷ ys)
first_least y ys h = λ k d lt. h 0 k d (omega arith) lt

rest_up : (y : ℕ) (ys : List ℕ) → IsNonDecreasing (y ∷ ys) → IsNonDecreasing ys
rest_up y ys h = λ i j d le lt. h (suc i) (suc j) d (omega arith) (omega arith)

count_first : (y : ℕ) (ys : List ℕ) → 0 < count_by (eqb y) (y ∷ ys)
count_first y ys = omega (arith, count-same y y ys (eq-eqb y y refl))

pub same_numbers : (xs ys : List ℕ) → IsNonDecreasing xs → IsNonDecreasing ys → ((q : ℕ) → count_by (eqb q) xs ≡ count_by (eqb q) ys) → xs ≡ ys
same_numbers [] [] a b h = refl
same_numbers [] (y ∷ ys) a b h = let c = count_first y ys in absurd (omega (arith, c, h y))
same_numbers (x ∷ xs) [] a b h = let c = count_first x xs in absurd (omega (arith, c, h x))
same_numbers (x ∷ xs) (y ∷ ys) a b h =
    let up : y ≤ x = counted_from y x (y ∷ ys) (first_least y ys b) (subst (λ n. 0 < n) (h x) (count_first x xs)) in
    let down : x ≤ y = counted_from x y (x ∷ xs) (first_least x xs a) (subst (λ n. 0 < n) (sym (h y)) (count_first y ys)) in
    let same : x ≡ y = omega arith in
    let rest : xs ≡ ys = same_numbers xs ys (rest_up x xs a) (rest_up y ys b) (λ q.
    let l = count_by-cons (eqb q) x xs in
    let r = count_by-cons (eqb q) y ys in
    let weight : ℕ → ℕ = λ z. cond (eqb q z) 1 0 in
    let e : weight x ≡ weight y = ap weight same in
    omega (arith, l, r, e, h q)) in
    rw (same, rest) refl

-- a sort
pub up_from_sort : (xs : List ℕ) → IsSorted nat_cmp xs → IsNonDecreasing xs
up_from_sort xs h = λ i j d le lt. ge_from_not_lt (get_or xs j d) (get_or xs i d) (sorted_far (λ x y. is_lt (nat_cmp x y)) (ranks_by nat_cmp_total (λ x. x)) xs h i j d le lt)

pub count-IsPermutation : (q : ℕ) (xs ys : List ℕ) → IsPermutation xs ys → count_by (eqb q) ys ≡ count_by (eqb q) xs
count-IsPermutation q xs ys h = sum_by-IsPermutation (λ y. cond (eqb q y) 1 0) xs ys h
