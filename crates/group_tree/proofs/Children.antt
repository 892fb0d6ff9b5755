-- What a node has at a path, from its children.
use Rattle.std.proofs.Common.{◌≡◌, ℕ, ◌<◌, false, cond, List, [], ◌∷◌, ◌++◌, length, get_or, refl, ap, sym, ◌∙◌, subst, arith, suc, Result, Ok, Err, Option, Some, None}
use Rattle.std.specs.declared.cmp.Ordering.TheVariants.{Less, Equal, Greater}
use Rattle.std.specs.Ordering.{eq_by_cmp, is_eq, ordering_then}
use Rattle.std.specs.Cmp.Lexicographic.{nat_list_cmp_total}
use Rattle.std.specs.FinMap as fin
use Rattle.flat_model.specs.Path.{Name, Path, name_cmp, path_cmp}
use Rattle.group_tree.specs.declared.attr.Attr.{Attr}
use Rattle.group_tree.specs.Node.{Branch, GroupEntry, under, below, groups_of, AllAbove, HasAscendingNames, place_of, place_by, one_on}
use Rattle.group_tree.specs.Sorted.{sorted_node}

-- what the children have at a path that begins with a name
abbrev pub below_get : List Branch → Name → Path → Option Attr
below_get [] n p = None
below_get (kid ∷ kids) n p = cond (eq_by_cmp name_cmp n kid.name) (fin.get kid.groups p) (below_get kids n p)

find_under_other : (n m : Name) (p : Path) (es fs : List GroupEntry) → eq_by_cmp name_cmp n m ≡ false → fin.find path_cmp (n ∷ p) (under m es ++ fs) ≡ fin.find path_cmp (n ∷ p) fs
find_under_other n m p [] fs h = refl
find_under_other n m p (e ∷ es) fs h =
    elim (name_cmp n m) as (λ r. is_eq r ≡ false
    → cond (is_eq (ordering_then r (path_cmp p e.0))) (Some e.1) (fin.find path_cmp (n ∷ p) (under m es ++ fs))
    ≡ fin.find path_cmp (n ∷ p) (under m es ++ fs)) [
      | Less ↦ λ k. refl
      | Equal ↦ λ k. cc
      | Greater ↦ λ k. refl
    ] h ∙ find_under_other n m p es fs h

find_under_same : (n m : Name) (p : Path) (es fs : List GroupEntry) → name_cmp n m ≡ Equal → fin.find path_cmp (n ∷ p) fs ≡ None → fin.find path_cmp (n ∷ p) (under m es ++ fs) ≡ fin.find path_cmp p es
find_under_same n m p [] fs h none = none
find_under_same n m p (e ∷ es) fs h none =
    ap (λ r. cond (is_eq (ordering_then r (path_cmp p e.0))) (Some e.1) (fin.find path_cmp (n ∷ p) (under m es ++ fs))) h
    ∙ ap (cond (is_eq (path_cmp p e.0)) (Some e.1)) (find_under_same n m p es fs h none)

not_above : (n m : Name) → name_cmp n m ≡ Less → eq_by_cmp name_cmp n m ≡ false
not_above n m h = ap is_eq h

find_above : (n : Name) (p : Path) (kids : List Branch) → AllAbove n kids → fin.find path_cmp (n ∷ p) (below kids) ≡ None
find_above n p [] h = refl
find_above n p (k ∷ kids) h = find_under_other n k.name p (fin.entries k.groups) (below kids) (not_above n k.name h.0) ∙ find_above n p kids h.1

-- a name that ties stands where the other stands
pub above_tied : (n m : Name) (kids : List Branch) → name_cmp n m ≡ Equal → AllAbove m kids → AllAbove n kids
above_tied n m [] e h = tt
above_tied n m (k ∷ kids) e h = (nat_list_cmp_total.congr n m k.name e ∙ h.0, above_tied n m kids e h.1)

pub above_less : (n m : Name) (kids : List Branch) → name_cmp n m ≡ Less → AllAbove m kids → AllAbove n kids
above_less n m [] e h = tt
above_less n m (k ∷ kids) e h = (nat_list_cmp_total.trans n m k.name e h.0, above_less n m kids e h.1)

pub find_in_below : (n : Name) (p : Path) (kids : List Branch) → HasAscendingNames kids → fin.find path_cmp (n ∷ p) (below kids) ≡ below_get kids n p
find_in_below n p [] h = refl
find_in_below n p (k ∷ kids) h =
    elim (name_cmp n k.name) as (λ r. name_cmp n k.name ≡ r → fin.find path_cmp (n ∷ p) (under k.name (fin.entries k.groups) ++ below kids)
    ≡ cond (is_eq r) (fin.get k.groups p) (below_get kids n p)) [
      | Less ↦ λ e. find_under_other n k.name p (fin.entries k.groups) (below kids) (ap is_eq e) ∙ find_in_below n p kids h.1
      | Equal ↦ λ e. find_under_same n k.name p (fin.entries k.groups) (below kids) e (find_above n p kids (above_tied n k.name kids e h.0)) ∙ sym (fin.get-entries k.groups p)
      | Greater ↦ λ e. find_under_other n k.name p (fin.entries k.groups) (below kids) (ap is_eq e) ∙ find_in_below n p kids h.1
    ] refl

pub get_root : (attr : Attr) (kids : List Branch) → HasAscendingNames kids → fin.get (groups_of attr kids) [] ≡ Some attr
unfolding groups_of
get_root attr kids h = fin.get-from_sorted path_cmp (([], attr) ∷ below kids) [] (sorted_node attr kids h)

pub get_child : (attr : Attr) (kids : List Branch) (n : Name) (p : Path) → HasAscendingNames kids → fin.get (groups_of attr kids) (n ∷ p) ≡ below_get kids n p
unfolding groups_of
get_child attr kids n p h = fin.get-from_sorted path_cmp (([], attr) ∷ below kids) (n ∷ p) (sorted_node attr kids h) ∙ find_in_below n p kids h

-- the child that a scan finds
pub record Found (n : Name) (kids : List Branch) (i : ℕ) : Type 0 where
  pub bound : i < length kids
  pub has : (d : Branch) (p : Path) → below_get kids n p ≡ fin.get (get_or kids i d).groups p
  pub named : (d : Branch) → name_cmp n (get_or kids i d).name ≡ Equal

pub later_ok : (r : Result ℕ ℕ) (i : ℕ) → one_on r ≡ Ok i → (j : ℕ) × (r ≡ Ok j) × (i ≡ suc j)
later_ok (Ok j) i e = (j, refl, cc)
later_ok (Err j) i e = cc

pub found : (n : Name) (kids : List Branch) (i : ℕ) → place_of n kids ≡ Ok i → Found n kids i
found n [] i e = cc
found n (k ∷ kids) i e =
    elim (name_cmp n k.name) as (λ r. name_cmp n k.name ≡ r → place_by r (place_of n kids) ≡ Ok i → Found n (k ∷ kids) i) [
      | Less ↦ λ o e. cc
      | Equal ↦ λ o e.
          let z : 0 ≡ i = cc in
          subst (Found n (k ∷ kids)) z (record {
            bound = omega arith;
            has = λ d p. ap (λ r. cond (is_eq r) (fin.get k.groups p) (below_get kids n p)) o;
            named = λ d. o;
          })
      | Greater ↦ λ o e.
          let l = later_ok (place_of n kids) i e in
          let f = found n kids l.0 l.1 in
          subst (Found n (k ∷ kids)) (sym l.2) (record {
            bound = let b = f.bound in omega arith;
            has = λ d p. ap (λ r. cond (is_eq r) (fin.get k.groups p) (below_get kids n p)) o ∙ f.has d p;
            named = f.named;
          })
    ] refl e

pub later_err : (r : Result ℕ ℕ) (i : ℕ) → one_on r ≡ Err i → (j : ℕ) × (r ≡ Err j) × (i ≡ suc j)
later_err (Ok j) i e = cc
later_err (Err j) i e = (j, refl, cc)

pub below_get_above : (n : Name) (p : Path) (kids : List Branch) → AllAbove n kids → below_get kids n p ≡ None
below_get_above n p [] h = refl
below_get_above n p (k ∷ kids) h = ap (λ r. cond (is_eq r) (fin.get k.groups p) (below_get kids n p)) h.0 ∙ below_get_above n p kids h.1

-- no child is called so
pub missing : (n : Name) (kids : List Branch) (i : ℕ) (p : Path) → HasAscendingNames kids → place_of n kids ≡ Err i → below_get kids n p ≡ None
missing n [] i p h e = refl
missing n (k ∷ kids) i p h e =
    elim (name_cmp n k.name) as (λ r. name_cmp n k.name ≡ r → place_by r (place_of n kids) ≡ Err i → cond (is_eq r) (fin.get k.groups p) (below_get kids n p) ≡ None) [
      | Less ↦ λ o e. below_get_above n p kids (above_less n k.name kids o h.0)
      | Equal ↦ λ o e. cc
      | Greater ↦ λ o e. let l = later_err (place_of n kids) i e in missing n kids l.0 p h.1 l.1
    ] refl e
