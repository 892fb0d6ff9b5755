-- The binary search for a name among the children.
use Rattle.std.proofs.Common.{◌≡◌, ℕ, ◌<◌, ◌≤◌, List, [], ◌∷◌, length, get_or, refl, ap, sym, ◌∙◌, arith, suc, zero, Result, Ok, Err}
use Rattle.std.specs.declared.cmp.Ordering.{Ordering}
use Rattle.std.specs.declared.cmp.Ordering.TheVariants.{Less, Equal, Greater}
use Rattle.std.specs.Ordering.{ordering_index, ordering_reverse}
use Rattle.std.specs.List.Sorted.{IsSearchInRange, IsBinarySearchResult, IsNonDecreasingBy}
use Rattle.flat_model.specs.Path.{Name, name_cmp}
use Rattle.flat_model.proofs.PathLaws.{name_cmp-IsTotalOrder, name_cmp-IsAntisymmetric}
use Rattle.group_tree.specs.Node.{Branch, AllAbove, HasAscendingNames, place_of, place_by, one_on}

turned : (a b : Name) (r : Ordering) → name_cmp a b ≡ r → name_cmp b a ≡ ordering_reverse r
turned a b r e = name_cmp-IsTotalOrder.antisymm b a ∙ ap ordering_reverse e

at_most_two : (r : Ordering) → ordering_index r ≤ 2
at_most_two Less = omega arith
at_most_two Equal = omega arith
at_most_two Greater = omega arith

-- the comparisons with a name ascend along ascending names
ascends : (a b n : Name) → name_cmp a b ≡ Less → ordering_index (name_cmp a n) ≤ ordering_index (name_cmp b n)
ascends a b n h =
    elim (name_cmp b n) as (λ r. name_cmp b n ≡ r → ordering_index (name_cmp a n) ≤ ordering_index r) [
      | Less ↦ λ e. let z = ap ordering_index (name_cmp-IsTotalOrder.trans a b n h e) in omega arith
      | Equal ↦ λ e. let z = ap ordering_index (ap (name_cmp a) (sym (name_cmp-IsAntisymmetric b n e)) ∙ h) in omega arith
      | Greater ↦ λ e. at_most_two (name_cmp a n)
    ] refl

above_at : (x : Name) (kids : List Branch) (i : ℕ) (d : Branch) → AllAbove x kids → i < length kids → name_cmp x (get_or kids i d).name ≡ Less
above_at x [] i d h l = absurd (omega arith)
above_at x (k ∷ kids) zero d h l = h.0
above_at x (k ∷ kids) (suc i) d h l = above_at x kids i d h.1 (omega arith)

searchable : (name : Name) (kids : List Branch) → HasAscendingNames kids → IsNonDecreasingBy (λ (k : Branch). ordering_index (name_cmp k.name name)) kids
searchable name [] h i j d le l = absurd (omega arith)
searchable name (k ∷ kids) h zero zero d le l = omega arith
searchable name (k ∷ kids) h zero (suc j) d le l = ascends k.name (get_or kids j d).name name (above_at k.name kids j d h.0 (omega arith))
searchable name (k ∷ kids) h (suc i) zero d le l = absurd (omega arith)
searchable name (k ∷ kids) h (suc i) (suc j) d le l = searchable name kids h.1 i j d (omega arith) (omega arith)

place_found : (name : Name) (kids : List Branch) (i : ℕ) → HasAscendingNames kids → i < length kids → ((d : Branch) → name_cmp (get_or kids i d).name name ≡ Equal) → place_of name kids ≡ Ok i
place_found name [] i h l e = absurd (omega arith)
place_found name (k ∷ kids) zero h l e = ap (λ r. place_by r (place_of name kids)) (turned k.name name Equal (e k))
place_found name (k ∷ kids) (suc i) h l e =
    let named : (get_or kids i k).name ≡ name = name_cmp-IsAntisymmetric _ _ (e k) in
    let less : name_cmp k.name name ≡ Less = ap (name_cmp k.name) (sym named) ∙ above_at k.name kids i k h.0 (omega arith) in
    ap (λ r. place_by r (place_of name kids)) (turned k.name name Less less) ∙ ap one_on (place_found name kids i h.1 (omega arith) e)

place_missing : (name : Name) (kids : List Branch) (i : ℕ) → i ≤ length kids
    → ((j : ℕ) (d : Branch) → 0 ≤ j → j < i → name_cmp (get_or kids j d).name name ≡ Less)
    → ((j : ℕ) (d : Branch) → i ≤ j → j < length kids → name_cmp (get_or kids j d).name name ≡ Greater) → place_of name kids ≡ Err i
place_missing name [] i l before after = let z : 0 ≡ i = omega arith in ap Err z
place_missing name (k ∷ kids) zero l before after = ap (λ r. place_by r (place_of name kids)) (turned k.name name Greater (after 0 k (omega arith) (omega arith)))
place_missing name (k ∷ kids) (suc i) l before after =
    ap (λ r. place_by r (place_of name kids)) (turned k.name name Less (before 0 k (omega arith) (omega arith)))
    ∙ ap one_on (place_missing name kids i (omega arith) (λ j d _ b. before (suc j) d (omega arith) (omega arith)) (λ j d a b. after (suc j) d (omega arith) (omega arith)))

-- the search ends at the child, or where it would stand
pub searched : (name : Name) (kids : List Branch) (r : Result ℕ ℕ) → HasAscendingNames kids → IsSearchInRange r (length kids)
    → IsBinarySearchResult (λ (k : Branch). name_cmp k.name name) kids r → place_of name kids ≡ r
searched name kids (Ok i) h bound equal = place_found name kids i h bound equal
searched name kids (Err i) h bound parted = let p = parted (searchable name kids h) in place_missing name kids i bound p.0 p.1
