-- Paths. A path is the list of names from the root down to a group, and a name is a list of bytes. The root is the empty list.
use Rattle.std.specs.Prelude.{◌≡◌, ℕ, ◌-◌, Bool, true, false, ◌&&◌, not, List, [], ◌∷◌, ◌++◌, map, reverse, length, take}
use Rattle.std.specs.Ordering.{nat_cmp, eq_by_cmp}
use Rattle.std.specs.Cmp.Lexicographic.{slice_cmp}
use Rattle.std.specs.declared.cmp.Ordering.{Ordering}

abbrev pub Name : Type 0
Name = List ℕ

abbrev pub Path : Type 0
Path = List Name

-- names in the order of their bytes; a name comes before the names that begin with it
abbrev pub name_cmp : Name → Name → Ordering
name_cmp = slice_cmp nat_cmp

-- paths in the order of their names; a group comes before the groups below it
abbrev pub path_cmp : Path → Path → Ordering
path_cmp = slice_cmp name_cmp

abbrev pub same_name : Name → Name → Bool
same_name = eq_by_cmp name_cmp

abbrev pub same_path : Path → Path → Bool
same_path = eq_by_cmp path_cmp

abbrev pub is_root : Path → Bool
is_root [] = true
is_root (name ∷ rest) = false

-- p is q or is below it: p begins with q's names
abbrev pub at_or_below : Path → Path → Bool
at_or_below p [] = true
at_or_below [] (m ∷ q) = false
at_or_below (n ∷ p) (m ∷ q) = same_name n m && at_or_below p q

abbrev pub strictly_below : Path → Path → Bool
strictly_below p q = at_or_below p q && not (same_path p q)

-- the same as a relation on lists: q is a prefix of p
abbrev pub HasPrefix : Path → Path → Type 0
HasPrefix p q = (rest : Path) × (p ≡ q ++ rest)

-- the path without its last name; the root is its own parent
abbrev pub parent : Path → Path
parent p = take (length p - 1) p

-- the groups from the root down to p, both included
abbrev pub prefixes : Path → List Path
prefixes [] = [] ∷ []
prefixes (name ∷ rest) = [] ∷ map (λ q. name ∷ q) (prefixes rest)

-- the groups from p up to the root, both included
abbrev pub upward : Path → List Path
upward p = reverse (prefixes p)
