-- All slots, one after another.
use Rattle.std.proofs.Common.{◌≡◌, ℕ, ◌+◌, ◌-◌, ◌<◌, ◌≤◌, cond, eqb, true, false, List, [], ◌∷◌, ◌++◌, length, count_by, refl, arith, inl, inr, length-append}
use Rattle.std.proofs.lemmas.List.Sums.{sum_by-append}
use Rattle.std.proofs.lemmas.Bool.{ne_eqb, cases_lt}
use Rattle.pids_charge.specs.Recount.{AreAllFree}

pub count-more : (s n : ℕ) (free : List ℕ) → count_by (eqb s) (free ++ n ∷ []) ≡ count_by (eqb s) free + cond (eqb s n) 1 0
count-more s n free = omega (arith, sum_by-append (λ y. cond (eqb s y) 1 0) free (n ∷ []))

at_most : (s n : ℕ) → cond (eqb s n) 1 0 ≤ 1
at_most s n = elim (eqb s n) as (λ b. cond b 1 0 ≤ 1) [ true ↦ omega arith | false ↦ omega arith ]

apart : (s n : ℕ) → (s ≡ n → ⊥) → ◌≡◌ {A = ℕ} (cond (eqb s n) 1 0) 0
apart s n ne = rw (ne_eqb s n ne) refl

-- each slot from low on is free, once
pub record AreFreeFrom (low slots : ℕ) (free : List ℕ) : Type 0 where
  pub once : (s : ℕ) → count_by (eqb s) free ≤ 1
  pub in_range : (s : ℕ) → slots ≤ s → count_by (eqb s) free ≡ 0
  pub below : (s : ℕ) → s < low → count_by (eqb s) free ≡ 0
  pub many : length free + low ≡ slots

pub none_free : (slots : ℕ) → AreFreeFrom slots slots []
none_free slots = record { once = λ s. omega arith; in_range = λ s h. refl; below = λ s h. refl; many = omega arith }

-- the slot below the others
module _ (low slots : ℕ) (free : List ℕ) (pos : 0 < low) (inside : low ≤ slots) (h : AreFreeFrom low slots free) where
  once_more : (s : ℕ) → count_by (eqb s) (free ++ (low - 1) ∷ []) ≤ 1
  once_more s = elim (cases_lt s low) [
    | inl lt ↦ omega (arith, count-more s (low - 1) free, h.below s lt, at_most s (low - 1))
    | inr le ↦ omega (arith, count-more s (low - 1) free, h.once s, apart s (low - 1) (λ e. omega (arith, pos, le, e)))
  ]

  pub one_more_free : AreFreeFrom (low - 1) slots (free ++ (low - 1) ∷ [])
  one_more_free = record {
    once = once_more;
    in_range = λ s le. omega (arith, count-more s (low - 1) free, h.in_range s le, apart s (low - 1) (λ e. omega (arith, pos, inside, le, e)));
    below = λ s lt. omega (arith, count-more s (low - 1) free, h.below s (omega (arith, lt)), apart s (low - 1) (λ e. omega (arith, lt, e)));
    many = omega (arith, pos, h.many, length-append free ((low - 1) ∷ []));
  }

pub all_free : (slots : ℕ) (free : List ℕ) → AreFreeFrom 0 slots free → AreAllFree slots free
all_free slots free h = record { once = h.once; in_range = h.in_range; many = omega (arith, h.many) }
