-- The entries of a node are in order, and each child has fewer entries than the node.
use Rattle.std.specs.Prelude.{◌≡◌, ℕ, ◌+◌, ◌≤◌, suc, Bool, true, false, ◌&&◌, List, [], ◌∷◌, ◌++◌, length, refl}
use Rattle.std.proofs.Common.{arith, length-append, sym, ap, subst}
use Rattle.std.specs.declared.cmp.Ordering.TheVariants.{Less}
use Rattle.std.specs.Ordering.{is_lt, ordering_then}
use Rattle.std.specs.Cmp.{tied_itself}
use Rattle.std.specs.Cmp.Lexicographic.{nat_list_cmp_total}
use Rattle.std.specs.FinMap as fin
use Rattle.std.specs.FinMap.Entries.{is_sorted, below_all}
use lib.Dec.{T}
use denote.Param.Weighed.{most}
use Rattle.flat_model.specs.Path.{name_cmp, path_cmp}
use Rattle.group_tree.specs.declared.attr.Attr.{Attr}
use Rattle.group_tree.specs.Node.{Branch, GroupEntry, under, below, groups_of, AllAbove, HasAscendingNames}

both : (a b : Bool) → T a → T b → T (a && b)
both true b p q = q
both false b p q = absurd p

first : (a b : Bool) → T (a && b) → T a
first true b p = tt
first false b p = p

second : (a b : Bool) → T (a && b) → T b
second true b p = p
second false b p = absurd p

-- two paths with the same first name are ordered as their rests are
pub same_first : (n : List ℕ) (p q : List (List ℕ)) → path_cmp (n ∷ p) (n ∷ q) ≡ path_cmp p q
same_first n p q = ap (λ r. ordering_then r (path_cmp p q)) (tied_itself nat_list_cmp_total n)

pub other_first : (n m : List ℕ) (p q : List (List ℕ)) → name_cmp n m ≡ Less → path_cmp (n ∷ p) (m ∷ q) ≡ Less
other_first n m p q e = ap (λ r. ordering_then r (path_cmp p q)) e

below_under : (n : List ℕ) (p : List (List ℕ)) (es : List GroupEntry) → T (below_all path_cmp p es) → T (below_all path_cmp (n ∷ p) (under n es))
below_under n p [] h = tt
below_under n p (e ∷ es) h = both _ _ (subst (λ r. T (is_lt r)) (sym (same_first n p e.0)) (first _ _ h)) (below_under n p es (second _ _ h))

sorted_under : (n : List ℕ) (es : List GroupEntry) → T (is_sorted path_cmp es) → T (is_sorted path_cmp (under n es))
sorted_under n [] h = tt
sorted_under n (e ∷ es) h = both _ _ (below_under n e.0 es (first _ _ h)) (sorted_under n es (second _ _ h))

below_append : (p : List (List ℕ)) (es fs : List GroupEntry) → T (below_all path_cmp p es) → T (below_all path_cmp p fs) → T (below_all path_cmp p (es ++ fs))
below_append p [] fs g h = h
below_append p (e ∷ es) fs g h = both _ _ (first _ _ g) (below_append p es fs (second _ _ g) h)

below_other : (n m : List ℕ) (p : List (List ℕ)) (es : List GroupEntry) → name_cmp n m ≡ Less → T (below_all path_cmp (n ∷ p) (under m es))
below_other n m p [] e = tt
below_other n m p (f ∷ es) e = both _ _ (subst (λ r. T (is_lt r)) (sym (other_first n m p f.0 e)) tt) (below_other n m p es e)

below_kids : (n : List ℕ) (p : List (List ℕ)) (kids : List Branch) → AllAbove n kids → T (below_all path_cmp (n ∷ p) (below kids))
below_kids n p [] h = tt
below_kids n p (k ∷ kids) h = below_append (n ∷ p) (under k.name (fin.entries k.groups)) (below kids) (below_other n k.name p (fin.entries k.groups) h.0) (below_kids n p kids h.1)

sorted_append : (n : List ℕ) (es : List GroupEntry) (kids : List Branch) → T (is_sorted path_cmp es) → AllAbove n kids
    → T (is_sorted path_cmp (below kids)) → T (is_sorted path_cmp (under n es ++ below kids))
sorted_append n [] kids h a s = s
sorted_append n (e ∷ es) kids h a s =
    both _ _ (below_append (n ∷ e.0) (under n es) (below kids) (below_under n e.0 es (first _ _ h)) (below_kids n e.0 kids a)) (sorted_append n es kids (second _ _ h) a s)

pub sorted_below : (kids : List Branch) → HasAscendingNames kids → T (is_sorted path_cmp (below kids))
sorted_below [] h = tt
sorted_below (k ∷ kids) h = sorted_append k.name (fin.entries k.groups) kids (fin.entries_sorted k.groups) h.0 (sorted_below kids h.1)

root_under : (n : List ℕ) (es fs : List GroupEntry) → T (below_all path_cmp [] fs) → T (below_all path_cmp [] (under n es ++ fs))
root_under n [] fs h = h
root_under n (e ∷ es) fs h = root_under n es fs h

root_below : (kids : List Branch) → T (below_all path_cmp [] (below kids))
root_below [] = tt
root_below (k ∷ kids) = root_under k.name (fin.entries k.groups) (below kids) (root_below kids)

-- the entries of a node in order
pub sorted_node : (attr : Attr) (kids : List Branch) → HasAscendingNames kids → T (is_sorted path_cmp (([], attr) ∷ below kids))
sorted_node attr kids h = both _ _ (root_below kids) (sorted_below kids h)

pub entries_of_node : (attr : Attr) (kids : List Branch) → HasAscendingNames kids → fin.entries (groups_of attr kids) ≡ ([], attr) ∷ below kids
unfolding groups_of
entries_of_node attr kids h = fin.entries-from_sorted path_cmp (([], attr) ∷ below kids) (sorted_node attr kids h)

pub length-under : (n : List ℕ) (es : List GroupEntry) → length (under n es) ≡ length es
length-under n [] = refl
length-under n (e ∷ es) = ap suc (length-under n es)

most_le-below : (kids : List Branch) → most (λ k. fin.len k.groups + 1) kids ≤ length (below kids) + 1
most_le-below [] = omega arith
most_le-below (k ∷ kids) =
    omega (arith, most_le-below kids, length-append (under k.name (fin.entries k.groups)) (below kids), length-under k.name (fin.entries k.groups), fin.len-entries k.groups)

pub most_le-groups : (attr : Attr) (kids : List Branch) → HasAscendingNames kids → most (λ k. fin.len k.groups + 1) kids ≤ fin.len (groups_of attr kids)
most_le-groups attr kids h =
    omega (arith, most_le-below kids, fin.len-entries (groups_of attr kids), ap length (entries_of_node attr kids h))
