-- How many groups are strictly below a path.
use Rattle.std.proofs.Common.{◌≡◌, ℕ, ◌+◌, ◌^◌, ◌%◌, ◌<◌, ◌≤◌, Bool, true, false, cond, ◌&&◌, not, List, [], ◌∷◌, ◌++◌, map, length, get_or}
use Rattle.std.proofs.Common.{refl, ap, sym, ◌∙◌, subst, arith, suc, Ok, Option, Some, None, IsSome}
use Rattle.std.specs.Prelude.{count_by, MatchOption, IfSome, option_map}
use Rattle.std.proofs.lemmas.List.{length-map}
use Rattle.std.specs.declared.cmp.Ordering.{Ordering}
use Rattle.std.specs.declared.cmp.Ordering.TheVariants.{Less, Equal, Greater}
use Rattle.std.specs.Ordering.{is_eq, ordering_then, ordering_reverse}
use Rattle.std.specs.FinMap as fin
use Rattle.flat_model.specs.Path.{Name, Path, name_cmp, path_cmp, at_or_below, strictly_below}
use Rattle.flat_model.proofs.PathLaws.{name_cmp-IsTotalOrder}
use Rattle.flat_model.proofs.Sums.{count_by-cons}
use Rattle.group_tree.specs.declared.attr.Attr.{Attr}
use Rattle.group_tree.specs.Groups.{Groups, descendant_count}
use Rattle.group_tree.specs.Node.{Branch, GroupEntry, under, below, groups_of, AllAbove, HasAscendingNames, IsNode, place_of, place_by, Counts}
use Rattle.group_tree.specs.Sorted.{entries_of_node}
use Rattle.group_tree.proofs.Children.{later_ok, above_tied}
use Rattle.group_tree.proofs.Walk.{find_down}
use Rattle.group_tree.proofs.NodeSteps.{root_is_some}

-- the entries strictly below p
abbrev pub count_in : Path → List GroupEntry → ℕ
count_in p es = count_by (λ q. strictly_below q p) (map (λ e. e.0) es)

count_in-cons : (p : Path) (e : GroupEntry) (es : List GroupEntry) → count_in p (e ∷ es) ≡ cond (strictly_below e.0 p) 1 0 + count_in p es
count_in-cons p e es = count_by-cons (λ q. strictly_below q p) e.0 (map (λ x. x.0) es)

-- each entry of a child is strictly below the root
count_under : (n : Name) (es fs : List GroupEntry) → count_in [] fs ≡ length fs → count_in [] (under n es ++ fs) ≡ length (under n es ++ fs)
count_under n [] fs h = h
count_under n (e ∷ es) fs h =
    let c = count_in-cons [] (n ∷ e.0, e.1) (under n es ++ fs) in
    let r = count_under n es fs h in
    omega (arith, c, r)

count_all : (kids : List Branch) → count_in [] (below kids) ≡ length (below kids)
count_all [] = refl
count_all (k ∷ kids) = count_under k.name (fin.entries k.groups) (below kids) (count_all kids)

one_less : (c d n : ℕ) → c ≡ 0 + d → d ≡ n → c ≡ n
one_less c d n e f = omega arith

pub count_here : (attr : Attr) (kids : List Branch) → HasAscendingNames kids → descendant_count (groups_of attr kids) [] ≡ length (below kids)
count_here attr kids h =
    ap (count_in []) (entries_of_node attr kids h) ∙ one_less _ _ _ (count_in-cons [] ([], attr) (below kids)) (count_all kids)

-- what is below a name and below another
by_name : (m n : Name) (p q : Path) (r : Ordering) → name_cmp m n ≡ r → strictly_below (m ∷ q) (n ∷ p) ≡ ((is_eq r && at_or_below q p) && not (is_eq (ordering_then r (path_cmp q p))))
by_name m n p q r e = ap (λ (s : Ordering). (is_eq s && at_or_below q p) && not (is_eq (ordering_then s (path_cmp q p)))) e

off_name : (m n : Name) (p q : Path) (r : Ordering) → name_cmp m n ≡ r → is_eq r ≡ false → strictly_below (m ∷ q) (n ∷ p) ≡ false
off_name m n p q Less e h = by_name m n p q Less e
off_name m n p q Equal e h = cc
off_name m n p q Greater e h = by_name m n p q Greater e

count_other : (n m : Name) (p : Path) (es fs : List GroupEntry) (r : Ordering) → name_cmp m n ≡ r → is_eq r ≡ false → count_in (n ∷ p) (under m es ++ fs) ≡ count_in (n ∷ p) fs
count_other n m p [] fs r o h = refl
count_other n m p (e ∷ es) fs r o h =
    let c = count_in-cons (n ∷ p) (m ∷ e.0, e.1) (under m es ++ fs) in
    let none : ◌≡◌ {A = ℕ} (cond (strictly_below (m ∷ e.0) (n ∷ p)) 1 0) 0 = ap (λ b. cond b 1 0) (off_name m n p e.0 r o h) in
    let rest = count_other n m p es fs r o h in
    omega (arith, c, none, rest)

count_same : (n m : Name) (p : Path) (es fs : List GroupEntry) → name_cmp m n ≡ Equal → count_in (n ∷ p) (under m es ++ fs) ≡ count_in p es + count_in (n ∷ p) fs
count_same n m p [] fs o = omega arith
count_same n m p (e ∷ es) fs o =
    let c = count_in-cons (n ∷ p) (m ∷ e.0, e.1) (under m es ++ fs) in
    let k = count_in-cons p e es in
    let same : ◌≡◌ {A = ℕ} (cond (strictly_below (m ∷ e.0) (n ∷ p)) 1 0) (cond (strictly_below e.0 p) 1 0) = ap (λ b. cond b 1 0) (by_name m n p e.0 Equal o) in
    let rest = count_same n m p es fs o in
    omega (arith, c, k, same, rest)

turned : (a b : Name) (r : Ordering) → name_cmp a b ≡ r → name_cmp b a ≡ ordering_reverse r
turned a b r e = name_cmp-IsTotalOrder.antisymm b a ∙ ap ordering_reverse e

count_above : (n : Name) (p : Path) (kids : List Branch) → AllAbove n kids → count_in (n ∷ p) (below kids) ≡ 0
count_above n p [] h = refl
count_above n p (k ∷ kids) h = count_other n k.name p (fin.entries k.groups) (below kids) Greater (turned n k.name Less h.0) refl ∙ count_above n p kids h.1

count_found : (n : Name) (p : Path) (kids : List Branch) (i : ℕ) (d : Branch) → HasAscendingNames kids → place_of n kids ≡ Ok i
    → count_in (n ∷ p) (below kids) ≡ count_in p (fin.entries (get_or kids i d).groups)
count_found n p [] i d h e = cc
count_found n p (k ∷ kids) i d h e =
    elim (name_cmp n k.name) as (λ r. name_cmp n k.name ≡ r → place_by r (place_of n kids) ≡ Ok i
    → count_in (n ∷ p) (under k.name (fin.entries k.groups) ++ below kids) ≡ count_in p (fin.entries (get_or (k ∷ kids) i d).groups)) [
      | Less ↦ λ o e. cc
      | Equal ↦ λ o e.
          let z : 0 ≡ i = cc in
          let none = count_above n p kids (above_tied n k.name kids o h.0) in
          let both = count_same n k.name p (fin.entries k.groups) (below kids) (turned n k.name Equal o) in
          let here : count_in (n ∷ p) (under k.name (fin.entries k.groups) ++ below kids) ≡ count_in p (fin.entries k.groups) = omega (arith, none, both) in
          here ∙ ap (λ (j : ℕ). count_in p (fin.entries (get_or (k ∷ kids) j d).groups)) z
      | Greater ↦ λ o e.
          let l = later_ok (place_of n kids) i e in
          count_other n k.name p (fin.entries k.groups) (below kids) Less (turned n k.name Greater o) refl ∙ count_found n p kids l.0 d h.1 l.1
          ∙ ap (λ (j : ℕ). count_in p (fin.entries (get_or (k ∷ kids) j d).groups)) (sym l.2)
    ] refl e

pub count_down : (attr : Attr) (kids : List Branch) (n : Name) (p : Path) (i : ℕ) (d : Branch) → HasAscendingNames kids
    → place_of n kids ≡ Ok i → descendant_count (groups_of attr kids) (n ∷ p) ≡ descendant_count (get_or kids i d).groups p
count_down attr kids n p i d h e =
    ap (count_in (n ∷ p)) (entries_of_node attr kids h) ∙ one_less _ _ _ (count_in-cons (n ∷ p) ([], attr) (below kids)) (count_found n p kids i d h e)

-- ---- as `descendants` answers it

pub counts_here : (attr : Attr) (kids : List Branch) (b : Branch) (nm : Name) (names : Path) (k : ℕ)
    → ◌≡◌ {A = Branch} (record { name = nm; groups = groups_of attr kids }) b → IsNode kids k → names ≡ [] → Counts b.groups names (Some k)
counts_here attr kids b nm names k is h e =
    let root : IsSome (fin.get b.groups []) = root_is_some attr kids b nm is h.ascending in
    let number : k ≡ descendant_count b.groups [] % 2 ^ 64 =
    h.counted ∙ ap (λ (x : ℕ). x % 2 ^ 64) (sym (count_here attr kids h.ascending)) ∙ ap (λ (x : Branch). descendant_count x.groups [] % 2 ^ 64) is in
    subst (λ (x : Path). Counts b.groups x (Some k)) (sym e) (root, number)

counts_by : (old kid : Groups) (names p : Path) (r : Option ℕ) → fin.get kid p ≡ fin.get old names → descendant_count old names ≡ descendant_count kid p → Counts kid p r → Counts old names r
counts_by old kid names p None g e h = sym g ∙ h
counts_by old kid names p (Some k) g e h = (subst IsSome g h.0, h.1 ∙ ap (λ (x : ℕ). x % 2 ^ 64) (sym e))

pub counts_down : (attr : Attr) (kids slice : List Branch) (b kid : Branch) (nm : Name) (names : Path) (n : Name) (p : Path) (i : ℕ)
    (r : Option ℕ) → ◌≡◌ {A = Branch} (record { name = nm; groups = groups_of attr kids }) b → HasAscendingNames kids → names ≡ n ∷ p
    → Ok i ≡ place_of n slice → slice ≡ kids → kid ≡ get_or kids i kid → Counts kid.groups p r → Counts b.groups names r
counts_down attr kids slice b kid nm names n p i r is h e at s item c =
    let place : place_of n kids ≡ Ok i = ap (place_of n) (sym s) ∙ sym at in
    let number : descendant_count b.groups names ≡ descendant_count kid.groups p =
    ap (descendant_count b.groups) e ∙ ap (λ (x : Branch). descendant_count x.groups (n ∷ p)) (sym is)
    ∙ count_down attr kids n p i kid h place ∙ ap (λ (x : Branch). descendant_count x.groups p) (sym item) in
    counts_by b.groups kid.groups names p r (find_down attr kids slice b kid nm names n p i is h e at s item) number c

-- ---- as the tree answers it

module _ {X : Type 0} (test : X → Bool) where
  pub count_le : (xs : List X) → count_by test xs ≤ length xs
  count_le [] = omega arith
  count_le (x ∷ xs) =
      let c = count_by-cons test x xs in
      let r = count_le xs in
      by (test x) c r
    where
      by : (b : Bool) → count_by test (x ∷ xs) ≡ cond b 1 0 + count_by test xs → count_by test xs ≤ length xs → count_by test (x ∷ xs) ≤ suc (length xs)
      by true c r = omega arith
      by false c r = omega arith

-- the answer, at the tree's map and the path that was named
pub counted_at : (m tree : Groups) (names p : Path) (r : Option ℕ) → m ≡ tree → names ≡ p → Counts m names r
    → MatchOption r (fin.get tree p ≡ None) (λ n. IsSome (fin.get tree p) × (n ≡ descendant_count tree p % 2 ^ 64))
counted_at m tree names p None is e h = sym (λ i. fin.get (is i) (e i)) ∙ h
counted_at m tree names p (Some k) is e h = (subst (λ (x : Groups). IsSome (fin.get x p)) is (subst (λ (x : Path). IsSome (fin.get m x)) e h.0), h.1 ∙ (λ i. descendant_count (is i) (e i) % 2 ^ 64))

pub small_mod : (n : ℕ) → n < 2 ^ 64 → n % 2 ^ 64 ≡ n
small_mod n h = omega arith

-- a tree of fewer than 2^64 groups is counted exactly
pub exact_at : (m tree : Groups) (names p : Path) (r : Option ℕ) → m ≡ tree → names ≡ p → Counts m names r → fin.len tree < 2 ^ 64 → IfSome r (λ n. n ≡ descendant_count tree p)
exact_at m tree names p None is e h few = tt
exact_at m tree names p (Some k) is e h few =
    let all = count_le (λ q. strictly_below q p) (fin.keys tree) in
    let long = length-map (fin.entries tree) (λ e. e.0) in
    let size = fin.len-entries tree in
    (counted_at m tree names p (Some k) is e h).1 ∙ small_mod (descendant_count tree p) (omega (arith, all, long, size, few))

-- the same, where the number is a part of the answer
pub counted_beside : {X : Type 0} (m tree : Groups) (names p : Path) (number : X → ℕ) (r : Option X) → m ≡ tree → names ≡ p
    → Counts m names (option_map number r) → IfSome r (λ x. number x ≡ descendant_count tree p % 2 ^ 64)
counted_beside m tree names p number None is e h = tt
counted_beside m tree names p number (Some x) is e h = (counted_at m tree names p (Some (number x)) is e h).1

pub exact_beside : {X : Type 0} (m tree : Groups) (names p : Path) (number : X → ℕ) (r : Option X) → m ≡ tree → names ≡ p
    → Counts m names (option_map number r) → fin.len tree < 2 ^ 64 → IfSome r (λ x. number x ≡ descendant_count tree p)
exact_beside m tree names p number None is e h few = tt
exact_beside m tree names p number (Some x) is e h few = exact_at m tree names p (Some (number x)) is e h few
