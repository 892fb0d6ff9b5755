-- The orders of names and paths, and what it is to be at or below a group.
use Rattle.std.proofs.Common.{◌≡◌, ℕ, ◌-◌, ◌≤◌, Bool, true, false, not, ◌&&◌, ◌⊎◌, ◌↔◌, [], ◌∷◌, ◌++◌, length, take, drop, refl, ap, sym, ◌≢◌}
use Rattle.std.proofs.Common.{◌∙◌, subst, inl, inr, append_assoc, length-append, take-append-drop, arith}
use Rattle.std.specs.Cmp.{IsTotalOrder, first_so, second_so, Equal-is}
use Rattle.std.specs.Cmp.Lexicographic.{nat_list_cmp_total, lists_total}
use Rattle.std.specs.FinMap.{IsAntisymmetric, nat_cmp-IsAntisymmetric, slice_cmp-IsAntisymmetric}
use Rattle.std.specs.Ordering.{eq_by_cmp}
use Rattle.std.specs.declared.cmp.Ordering.{Ordering}
use Rattle.std.proofs.lemmas.Cmp.{eq_by_cmp_equiv}
use Rattle.std.proofs.Math.Seq.{take-append_seam}
use Rattle.std.proofs.lemmas.Bool.{false_from_ne_true}
use Rattle.flat_model.specs.Path.{Name, Path, name_cmp, path_cmp, same_name, same_path, at_or_below, strictly_below, HasPrefix, parent, is_root}

-- lists in the order of their elements stand in a total order where the elements do
pub name_cmp-IsTotalOrder : IsTotalOrder name_cmp
name_cmp-IsTotalOrder = nat_list_cmp_total

pub path_cmp-IsTotalOrder : IsTotalOrder path_cmp
path_cmp-IsTotalOrder = lists_total nat_list_cmp_total

-- only equal names and paths tie
pub name_cmp-IsAntisymmetric : IsAntisymmetric name_cmp
name_cmp-IsAntisymmetric = slice_cmp-IsAntisymmetric nat_cmp-IsAntisymmetric

pub path_cmp-IsAntisymmetric : IsAntisymmetric path_cmp
path_cmp-IsAntisymmetric = slice_cmp-IsAntisymmetric name_cmp-IsAntisymmetric

-- the test of an order that only equal keys tie is equality
same_is : {K : Type 0} (R : K → K → Ordering) → IsTotalOrder R → IsAntisymmetric R → (x y : K) → (eq_by_cmp R x y ≡ true) ↔ (x ≡ y)
same_is R o exact x y = (λ h. exact x y ((Equal-is (R x y)).0 h), λ h. subst (λ z. eq_by_cmp R x z ≡ true) h ((eq_by_cmp_equiv o).refl x))

-- the model's tests of names and of paths are equality
pub same_name_is : (n m : Name) → (same_name n m ≡ true) ↔ (n ≡ m)
same_name_is = same_is name_cmp name_cmp-IsTotalOrder name_cmp-IsAntisymmetric

pub same_path_is : (p q : Path) → (same_path p q ≡ true) ↔ (p ≡ q)
same_path_is = same_is path_cmp path_cmp-IsTotalOrder path_cmp-IsAntisymmetric

-- each name and each path is itself
pub same_name_itself : (n : Name) → same_name n n ≡ true
same_name_itself n = (same_name_is n n).1 refl

pub same_path_itself : (p : Path) → same_path p p ≡ true
same_path_itself p = (same_path_is p p).1 refl

-- the rest of p behind q
splits : (p q : Path) → at_or_below p q ≡ true → HasPrefix p q
splits p [] h = (p, refl)
splits [] (m ∷ q) h = cc
splits (n ∷ p) (m ∷ q) h =
    let s = splits p q (second_so (same_name n m) (at_or_below p q) h) in
    let e = (same_name_is n m).0 (first_so (same_name n m) (at_or_below p q) h) in
    (s.0, λ i. e i ∷ s.1 i)

-- what stands behind q is below q
pub at_or_below-append : (q rest : Path) → at_or_below (q ++ rest) q ≡ true
at_or_below-append [] rest = refl
at_or_below-append (m ∷ q) rest = ap (λ b. b && at_or_below (q ++ rest) q) (same_name_itself m) ∙ at_or_below-append q rest

-- the test, and the relation of lists
pub at_or_below_is : (p q : Path) → (at_or_below p q ≡ true) ↔ HasPrefix p q
at_or_below_is p q = (splits p q, λ h. subst (λ (x : Path). at_or_below x q ≡ true) (sym h.1) (at_or_below-append q h.0))

-- a group is at or below itself
pub at_or_below_itself : (p : Path) → at_or_below p p ≡ true
at_or_below_itself [] = refl
at_or_below_itself (n ∷ p) = ap (λ b. b && at_or_below p p) (same_name_itself n) ∙ at_or_below_itself p

-- what stands below a group that stands below another stands below that
pub at_or_below_through : (p q r : Path) → at_or_below p q ≡ true → at_or_below q r ≡ true → at_or_below p r ≡ true
at_or_below_through p q r h k =
    let a = splits p q h in
    let b = splits q r k in
    (at_or_below_is p r).1 (b.0 ++ a.0, a.1 ∙ ap (λ (x : Path). x ++ a.0) b.1 ∙ append_assoc r b.0 a.0)

-- q is as many of p's names as it has
pub at_or_below_take : (p q : Path) → at_or_below p q ≡ true → q ≡ take (length q) p
at_or_below_take p q h = let a = splits p q h in sym (ap (take (length q)) a.1 ∙ take-append_seam q a.0)

-- a group below another has no fewer names
pub at_or_below_length : (p q : Path) → at_or_below p q ≡ true → length q ≤ length p
at_or_below_length p q h = let a = splits p q h in let e = ap length a.1 ∙ length-append q a.0 in omega arith

-- each front of p is above p
pub take_above : (n : ℕ) (p : Path) → at_or_below p (take n p) ≡ true
take_above n p = (at_or_below_is p (take n p)).1 (drop n p, sym (take-append-drop n p))

-- the parent is a front
pub parent_above : (p : Path) → at_or_below p (parent p) ≡ true
parent_above p = take_above (length p - 1) p

-- the root is the path without names
pub root_is_empty : (p : Path) → is_root p ≡ true → p ≡ []
root_is_empty [] e = refl
root_is_empty (n ∷ p) e = cc

pub not_empty_is_not_root : (p : Path) → p ≢ [] → is_root p ≡ false
not_empty_is_not_root p h = false_from_ne_true (is_root p) (λ e. h (root_is_empty p e))

-- the parent of a group with one more name
pub parent-child : (p : Path) (name : Name) → parent (p ++ name ∷ []) ≡ p
parent-child p name =
    let e : length (p ++ name ∷ []) - 1 ≡ length p = omega (arith, length-append p (name ∷ [])) in
    ap (λ n. take n (p ++ name ∷ [])) e ∙ take-append_seam p (name ∷ [])

-- two paths that are at or below each other are one
pub at_or_below_both : (p q : Path) → at_or_below p q ≡ true → at_or_below q p ≡ true → p ≡ q
at_or_below_both p q h k =
    let a = at_or_below_length p q h in
    let b = at_or_below_length q p k in
    let same : length p ≡ length q = omega arith in
    at_or_below_take q p k ∙ ap (λ n. take n q) same ∙ sym (at_or_below_take q q (at_or_below_itself q))

-- of two groups above p, one is at or below the other
pub at_or_below_either : (p q r : Path) → at_or_below p q ≡ true → at_or_below p r ≡ true → (at_or_below q r ≡ true) ⊎ (at_or_below r q ≡ true)
at_or_below_either p [] r h k = inr refl
at_or_below_either p (m ∷ q) [] h k = inl refl
at_or_below_either [] (m ∷ q) (x ∷ r) h k = cc
at_or_below_either (n ∷ p) (m ∷ q) (x ∷ r) h k =
    let e : m ≡ x = sym ((same_name_is n m).0 (first_so (same_name n m) (at_or_below p q) h)) ∙ (same_name_is n x).0 (first_so (same_name n x) (at_or_below p r) k) in
    elim (at_or_below_either p q r (second_so (same_name n m) (at_or_below p q) h) (second_so (same_name n x) (at_or_below p r) k)) as
    (λ _. (at_or_below (m ∷ q) (x ∷ r) ≡ true) ⊎ (at_or_below (x ∷ r) (m ∷ q) ≡ true)) [
      | inl g ↦ inl (ap (λ b. b && at_or_below q r) ((same_name_is m x).1 e) ∙ g)
      | inr g ↦ inr (ap (λ b. b && at_or_below r q) ((same_name_is x m).1 (sym e)) ∙ g)
    ]

-- both tests of `&&` hold
strict_by : (b c : Bool) → (b && not c) ≡ true → (b ≡ true) × (c ≡ false)
strict_by true false e = (refl, refl)
strict_by true true e = cc
strict_by false c e = cc

-- strictly below is below and elsewhere
pub strictly_below_is : (p q : Path) → (strictly_below p q ≡ true) ↔ ((at_or_below p q ≡ true) × (same_path p q ≡ false))
strictly_below_is p q = (strict_by (at_or_below p q) (same_path p q), λ h. ap (λ b. b && not (same_path p q)) h.0 ∙ ap not h.1)
