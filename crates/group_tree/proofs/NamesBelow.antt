-- The names one below a path, by the entries of a node.
use Rattle.std.proofs.Common.{◌≡◌, ℕ, Bool, true, false, cond, ◌&&◌, T, List, [], ◌∷◌, ◌++◌, map, get_or, refl, ap, sym, ◌∙◌, subst, Ok, Option, Some, None, is_some, IsSome}
use Rattle.std.specs.List.{filter}
use Rattle.std.proofs.lemmas.List.{map-append}
use Rattle.std.proofs.lemmas.List.Elements.{filter-append}
use Rattle.std.specs.declared.cmp.Ordering.{Ordering}
use Rattle.std.specs.declared.cmp.Ordering.TheVariants.{Less, Equal, Greater}
use Rattle.std.specs.Ordering.{is_eq, ordering_then, ordering_reverse}
use Rattle.std.specs.Cmp.Lexicographic.{nat_list_cmp_total}
use Rattle.std.specs.FinMap as fin
use Rattle.std.specs.FinMap.Entries.{is_sorted, below_all}
use Rattle.flat_model.specs.Path.{Name, Path, name_cmp, path_cmp, parent, same_path, same_name}
use Rattle.group_tree.specs.declared.attr.Attr.{Attr}
use Rattle.group_tree.specs.Node.{Branch, GroupEntry, under, below, groups_of, AllAbove, HasAscendingNames, place_of, place_by}
use Rattle.group_tree.specs.Sorted.{entries_of_node}
use Rattle.group_tree.specs.ChildNames.{last_name, is_child, child_names, NamesChildren, names_of_groups}
use Rattle.group_tree.proofs.Children.{above_tied, later_ok}
use Rattle.group_tree.proofs.Parents.{parent-one, parent-cons}
use Rattle.group_tree.proofs.Walk.{find_here, find_down}

-- ---- which path is one name below which

and_false : (b : Bool) → b && false ≡ false
and_false true = refl
and_false false = refl

is_eq-then : (a b : Ordering) → is_eq (ordering_then a b) ≡ is_eq a && is_eq b
is_eq-then Less b = refl
is_eq-then Equal b = refl
is_eq-then Greater b = refl

child_under : (n m : Name) (q g : Path) → is_child (m ∷ g) (n ∷ q) ≡ same_name n m && is_child g q
child_under n m [] g = ap (λ (p : Path). same_path p (m ∷ g)) (parent-one n) ∙ sym (and_false (same_name n m))
child_under n m (r ∷ q) g = ap (λ (p : Path). same_path p (m ∷ g)) (parent-cons n r q) ∙ is_eq-then (name_cmp n m) (path_cmp (parent (r ∷ q)) g)

child_of_root : (n : Name) → is_child [] (n ∷ []) ≡ true
child_of_root n = ap (λ (p : Path). same_path p []) (parent-one n)

deeper : (n m : Name) (q : Path) → is_child [] (n ∷ m ∷ q) ≡ false
deeper n m q = ap (λ (p : Path). same_path p []) (parent-cons n m q)

-- ---- among entries

abbrev names_in : List GroupEntry → Path → List Name
names_in es g = child_names (map (λ e. e.0) es) g

names_append : (es fs : List GroupEntry) (g : Path) → names_in (es ++ fs) g ≡ names_in es g ++ names_in fs g
names_append es fs g =
    ap (λ (ps : List Path). child_names ps g) (map-append (λ (e : GroupEntry). e.0) es fs)
    ∙ ap (map last_name) (filter-append (is_child g) (map (λ e. e.0) es) (map (λ e. e.0) fs))
    ∙ map-append last_name (filter (is_child g) (map (λ e. e.0) es)) (filter (is_child g) (map (λ e. e.0) fs))

one_more : (g q : Path) (es : List GroupEntry) (b : Bool) → is_child g q ≡ b
    → map last_name (cond (is_child g q) (q ∷ filter (is_child g) (map (λ e. e.0) es)) (filter (is_child g) (map (λ e. e.0) es)))
    ≡ cond b (last_name q ∷ names_in es g) (names_in es g)
one_more g q es true e = ap (λ b. map last_name (cond b (q ∷ filter (is_child g) (map (λ e. e.0) es)) (filter (is_child g) (map (λ e. e.0) es)))) e
one_more g q es false e = ap (λ b. map last_name (cond b (q ∷ filter (is_child g) (map (λ e. e.0) es)) (filter (is_child g) (map (λ e. e.0) es)))) e

names_other : (n m : Name) (g : Path) (es : List GroupEntry) → same_name n m ≡ false → names_in (under n es) (m ∷ g) ≡ []
names_other n m g [] differ = refl
names_other n m g (e ∷ es) differ = one_more (m ∷ g) (n ∷ e.0) (under n es) false (child_under n m e.0 g ∙ ap (λ b. b && is_child g e.0) differ) ∙ names_other n m g es differ

picked : (n : Name) (q g : Path) (xs : List Name) → cond (is_child g q) (last_name (n ∷ q) ∷ xs) xs ≡ cond (is_child g q) (last_name q ∷ xs) xs
picked n [] g xs = refl
picked n (r ∷ q) g xs = refl

names_same : (n m : Name) (g : Path) (es : List GroupEntry) → same_name n m ≡ true → names_in (under n es) (m ∷ g) ≡ names_in es g
names_same n m g [] same = refl
names_same n m g (e ∷ es) same =
    one_more (m ∷ g) (n ∷ e.0) (under n es) (is_child g e.0) (child_under n m e.0 g ∙ ap (λ b. b && is_child g e.0) same)
    ∙ ap (λ (xs : List Name). cond (is_child g e.0) (last_name (n ∷ e.0) ∷ xs) xs) (names_same n m g es same)
    ∙ picked n e.0 g (names_in es g)
    ∙ sym (one_more g e.0 es (is_child g e.0) refl)

-- ---- one name below a node

no_root : (n : Name) (es : List GroupEntry) → T (below_all path_cmp [] es) → names_in (under n es) [] ≡ []
no_root n [] h = refl
no_root n (([], a) ∷ es) h = absurd h
no_root n ((r ∷ q, a) ∷ es) h = one_more [] (n ∷ r ∷ q) (under n es) false (deeper n r q) ∙ no_root n es h

names_root : (n : Name) (es : List GroupEntry) → T (is_sorted path_cmp es) → names_in (under n es) [] ≡ cond (is_some (fin.find path_cmp [] es)) (n ∷ []) []
names_root n [] h = refl
names_root n (([], a) ∷ es) h = one_more [] (n ∷ []) (under n es) true (child_of_root n) ∙ ap (λ (xs : List Name). n ∷ xs) (no_root n es (first _ _ h))
  where
    first : (a b : Bool) → T (a && b) → T a
    first true b p = tt
    first false b p = p
names_root n ((r ∷ q, a) ∷ es) h = one_more [] (n ∷ r ∷ q) (under n es) false (deeper n r q) ∙ names_root n es (second _ _ h)
  where
    second : (a b : Bool) → T (a && b) → T b
    second true b p = p
    second false b p = absurd p

cond_cons : (b : Bool) (n : Name) (xs : List Name) → cond b (n ∷ []) [] ++ xs ≡ cond b (n ∷ xs) xs
cond_cons true n xs = refl
cond_cons false n xs = refl

names_below : (kids : List Branch) → names_in (below kids) [] ≡ names_of_groups kids
names_below [] = refl
names_below (k ∷ kids) =
    names_append (under k.name (fin.entries k.groups)) (below kids) []
    ∙ ap (λ (xs : List Name). xs ++ names_in (below kids) []) (names_root k.name (fin.entries k.groups) (fin.entries_sorted k.groups)
    ∙ ap (λ (o : Option Attr). cond (is_some o) (k.name ∷ []) []) (sym (fin.get-entries k.groups [])))
    ∙ cond_cons (fin.contains_key k.groups []) k.name (names_in (below kids) [])
    ∙ ap (λ (xs : List Name). cond (fin.contains_key k.groups []) (k.name ∷ xs) xs) (names_below kids)

-- ---- below a child

turned : (n m : Name) (r : Ordering) → name_cmp m n ≡ r → same_name n m ≡ is_eq (ordering_reverse r)
turned n m r e = ap is_eq (nat_list_cmp_total.antisymm n m ∙ ap ordering_reverse e)

names_above : (m : Name) (g : Path) (kids : List Branch) → AllAbove m kids → names_in (below kids) (m ∷ g) ≡ []
names_above m g [] h = refl
names_above m g (k ∷ kids) h =
    names_append (under k.name (fin.entries k.groups)) (below kids) (m ∷ g)
    ∙ ap (λ (xs : List Name). xs ++ names_in (below kids) (m ∷ g)) (names_other k.name m g (fin.entries k.groups) (turned k.name m Less h.0))
    ∙ names_above m g kids h.1

names_at : (m : Name) (g : Path) (kids : List Branch) (i : ℕ) (d : Branch) → HasAscendingNames kids → place_of m kids ≡ Ok i
    → names_in (below kids) (m ∷ g) ≡ child_names (fin.keys (get_or kids i d).groups) g
names_at m g [] i d h e = cc
names_at m g (k ∷ kids) i d h e =
    elim (name_cmp m k.name) as (λ r. name_cmp m k.name ≡ r → place_by r (place_of m kids) ≡ Ok i → names_in (below (k ∷ kids)) (m ∷ g) ≡ child_names (fin.keys (get_or (k ∷ kids) i d).groups) g) [
      | Less ↦ λ o e. cc
      | Equal ↦ λ o e.
          let z : 0 ≡ i = cc in
          subst (λ (j : ℕ). names_in (below (k ∷ kids)) (m ∷ g) ≡ child_names (fin.keys (get_or (k ∷ kids) j d).groups) g) z
          (names_append (under k.name (fin.entries k.groups)) (below kids) (m ∷ g)
          ∙ ap (λ (xs : List Name). xs ++ names_in (below kids) (m ∷ g)) (names_same k.name m g (fin.entries k.groups) (turned k.name m Equal o))
          ∙ ap (λ (xs : List Name). names_in (fin.entries k.groups) g ++ xs) (names_above m g kids (above_tied m k.name kids o h.0))
          ∙ none_more (names_in (fin.entries k.groups) g))
      | Greater ↦ λ o e.
          let l = later_ok (place_of m kids) i e in
          subst (λ (j : ℕ). names_in (below (k ∷ kids)) (m ∷ g) ≡ child_names (fin.keys (get_or (k ∷ kids) j d).groups) g) (sym l.2)
          (names_append (under k.name (fin.entries k.groups)) (below kids) (m ∷ g)
          ∙ ap (λ (xs : List Name). xs ++ names_in (below kids) (m ∷ g)) (names_other k.name m g (fin.entries k.groups) (turned k.name m Greater o))
          ∙ names_at m g kids l.0 d h.1 l.1)
    ] refl e
  where
    none_more : (xs : List Name) → xs ++ [] ≡ xs
    none_more [] = refl
    none_more (x ∷ xs) = ap (λ (ys : List Name). x ∷ ys) (none_more xs)

-- ---- as an answer at a return needs it

names_of_node : (attr : Attr) (kids : List Branch) (b : Branch) (nm : Name) (g : Path)
    → ◌≡◌ {A = Branch} (record { name = nm; groups = groups_of attr kids }) b → HasAscendingNames kids
    → child_names (fin.keys b.groups) g ≡ names_in (below kids) g
names_of_node attr kids b nm g is ascending =
    ap (λ (c : Branch). child_names (fin.keys c.groups) g) (sym is)
    ∙ ap (λ (es : List GroupEntry). names_in es g) (entries_of_node attr kids ascending)

pub names_here : (attr : Attr) (kids slice : List Branch) (b : Branch) (nm : Name) (names : Path) (r : List Name)
    → ◌≡◌ {A = Branch} (record { name = nm; groups = groups_of attr kids }) b → HasAscendingNames kids → names ≡ [] → slice ≡ kids
    → r ≡ names_of_groups slice → NamesChildren b.groups names (Some r)
names_here attr kids slice b nm names r is ascending e s from = (
  subst IsSome (find_here attr kids b nm names is ascending e) refl,
  from ∙ ap names_of_groups s ∙ sym (names_below kids) ∙ sym (names_of_node attr kids b nm [] is ascending) ∙ ap (child_names (fin.keys b.groups)) (sym e),
)

pub names_down : (attr : Attr) (kids slice : List Branch) (b kid : Branch) (nm : Name) (names : Path) (n : Name) (p : Path) (i : ℕ)
    (r : Option (List Name)) → ◌≡◌ {A = Branch} (record { name = nm; groups = groups_of attr kids }) b → HasAscendingNames kids
    → names ≡ n ∷ p → Ok i ≡ place_of n slice → slice ≡ kids → kid ≡ get_or kids i kid → NamesChildren kid.groups p r
    → NamesChildren b.groups names r
names_down attr kids slice b kid nm names n p i None is ascending e at s item h =
    sym (find_down attr kids slice b kid nm names n p i is ascending e at s item) ∙ h
names_down attr kids slice b kid nm names n p i (Some r) is ascending e at s item h = (
  subst IsSome (find_down attr kids slice b kid nm names n p i is ascending e at s item) h.0,
  h.1
      ∙ ap (λ (k : Branch). child_names (fin.keys k.groups) p) item
      ∙ sym (names_at n p kids i kid ascending (ap (place_of n) (sym s) ∙ sym at))
      ∙ sym (names_of_node attr kids b nm (n ∷ p) is ascending)
      ∙ ap (child_names (fin.keys b.groups)) (sym e),
)
