-- Lists of numbers read with 0 past their end, and sums over hands.
use Rattle.std.proofs.Common.{length-set, ◌≡◌, ◌≢◌, ℕ, zero, suc, ◌+◌, ◌-◌, ◌<◌, ◌≤◌, List, [], ◌∷◌, ◌++◌, length, set, get_or, sym, refl, ap, ◌∙◌, arith}
use Rattle.std.specs.Prelude.{slice_index}
use mathlib.Core.Option.{some, some-injective, some-ne-none}
use lib.ListN.{get_elem?}
use Rattle.snzi_core.specs.declared.holding.Holding.{Holding}
use Rattle.snzi_core.specs.Holding.{put, added, merged, without}
use Rattle.snzi_core.specs.Balance.{total}

pub at_put_same : (l : List ℕ) (i x : ℕ) → slice_index (put l i x) i ≡ x
at_put_same [] zero x = refl
at_put_same [] (suc i) x = at_put_same [] i x
at_put_same (y ∷ ys) zero x = refl
at_put_same (y ∷ ys) (suc i) x = at_put_same ys i x

pub at_put_else : (l : List ℕ) (i j x : ℕ) → j ≢ i → slice_index (put l i x) j ≡ slice_index l j
at_put_else [] zero zero x n = absurd (n refl)
at_put_else [] zero (suc j) x n = refl
at_put_else [] (suc i) zero x n = refl
at_put_else [] (suc i) (suc j) x n = at_put_else [] i j x (λ e. n (ap suc e))
at_put_else (y ∷ ys) zero zero x n = absurd (n refl)
at_put_else (y ∷ ys) zero (suc j) x n = refl
at_put_else (y ∷ ys) (suc i) zero x n = refl
at_put_else (y ∷ ys) (suc i) (suc j) x n = at_put_else ys i j x (λ e. n (ap suc e))

pub added_put : (l : List ℕ) (i x : ℕ) → added (put l i x) + slice_index l i ≡ added l + x
added_put [] zero x = omega arith
added_put [] (suc i) x = let r = added_put [] i x in omega arith
added_put (y ∷ ys) zero x = omega arith
added_put (y ∷ ys) (suc i) x = let r = added_put ys i x in omega arith

pub at_within : (l : List ℕ) (i : ℕ) → slice_index l i ≤ added l
at_within [] i = omega arith
at_within (y ∷ ys) zero = omega arith
at_within (y ∷ ys) (suc i) = let r = at_within ys i in omega arith

module _ (f : Holding → ℕ) where
  pub total_set : (l : List Holding) (id : ℕ) (v w : Holding) → get_elem? l id ≡ some v → total f (set l id w) + f v ≡ total f l + f w
  total_set [] id v w e = absurd (some-ne-none v (sym e))
  total_set (x ∷ xs) zero v w e = let is : f x ≡ f v = ap f (some-injective x v e) in omega arith
  total_set (x ∷ xs) (suc id) v w e = let r = total_set xs id v w e in omega arith

  pub total_snoc : (l : List Holding) (w : Holding) → total f (l ++ w ∷ []) ≡ total f l + f w
  total_snoc [] w = omega arith
  total_snoc (x ∷ xs) w = let r = total_snoc xs w in omega arith

  pub total_at : (l : List Holding) (id : ℕ) (v : Holding) → get_elem? l id ≡ some v → f v ≤ total f l
  total_at [] id v e = absurd (some-ne-none v (sym e))
  total_at (x ∷ xs) zero v e = let is : f x ≡ f v = ap f (some-injective x v e) in omega arith
  total_at (x ∷ xs) (suc id) v e = let r = total_at xs id v e in omega arith

pub at_nothing : (i : ℕ) → slice_index [] i ≡ 0
at_nothing i = refl

pub at_merged : (xs ys : List ℕ) (i : ℕ) → slice_index (merged xs ys) i ≡ slice_index xs i + slice_index ys i
at_merged [] ys i = omega arith
at_merged (x ∷ xs) [] i = omega arith
at_merged (x ∷ xs) (y ∷ ys) zero = refl
at_merged (x ∷ xs) (y ∷ ys) (suc i) = at_merged xs ys i

pub added_merged : (xs ys : List ℕ) → added (merged xs ys) ≡ added xs + added ys
added_merged [] ys = omega arith
added_merged (x ∷ xs) [] = omega arith
added_merged (x ∷ xs) (y ∷ ys) = let r = added_merged xs ys in omega arith

pub at_without : (xs ys : List ℕ) (i : ℕ) → slice_index (without xs ys) i ≡ slice_index xs i - slice_index ys i
at_without [] ys i = omega arith
at_without (x ∷ xs) [] i = omega arith
at_without (x ∷ xs) (y ∷ ys) zero = refl
at_without (x ∷ xs) (y ∷ ys) (suc i) = at_without xs ys i

none_added : (ys : List ℕ) → ((i : ℕ) → slice_index ys i ≤ 0) → added ys ≡ 0
none_added [] h = refl
none_added (y ∷ ys) h = let a : y ≤ 0 = h 0 in let r = none_added ys (λ i. h (suc i)) in omega arith

pub added_without : (xs ys : List ℕ) → ((i : ℕ) → slice_index ys i ≤ slice_index xs i) → added (without xs ys) + added ys ≡ added xs
added_without [] ys h = let a = none_added ys h in omega arith
added_without (x ∷ xs) [] h = omega arith
added_without (x ∷ xs) (y ∷ ys) h = let a : y ≤ x = h 0 in let r = added_without xs ys (λ i. h (suc i)) in omega arith

pub put_inside : (l : List ℕ) (i x : ℕ) → i < length l → put l i x ≡ set l i x
put_inside [] i x h = absurd (omega arith)
put_inside (y ∷ ys) zero x h = refl
put_inside (y ∷ ys) (suc i) x h = ap (λ (t : List ℕ). y ∷ t) (put_inside ys i x (omega arith))

pub read_inside : {X : Type 0} (l : List X) (i : ℕ) (d e : X) → i < length l → get_or l i d ≡ get_or l i e
read_inside [] i d e h = absurd (omega arith)
read_inside (y ∷ ys) zero d e h = refl
read_inside (y ∷ ys) (suc i) d e h = read_inside ys i d e (omega arith)

pub put_length : (l : List ℕ) (i x : ℕ) → i < length l → length (put l i x) ≡ length l
put_length l i x h = ap length (put_inside l i x h) ∙ length-set l i x

pub set_again : (l : List Holding) (id : ℕ) (v : Holding) → get_elem? l id ≡ some v → set l id v ≡ l
set_again [] id v e = refl
set_again (x ∷ xs) zero v e = ap (λ (h : Holding). h ∷ xs) (sym (some-injective x v e))
set_again (x ∷ xs) (suc id) v e = ap (λ (l : List Holding). x ∷ l) (set_again xs id v e)
