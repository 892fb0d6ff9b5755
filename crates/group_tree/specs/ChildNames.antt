-- The names of the children of a group.
use Rattle.std.specs.Prelude.{◌≡◌, Bool, ◌&&◌, not, cond, List, [], ◌∷◌, map, filter, Option, None, Some, IsSome}
use Rattle.std.specs.FinMap.{get, keys, contains_key}
use Rattle.flat_model.specs.Path.{Name, Path, is_root, parent, same_path}
use Rattle.group_tree.specs.Groups.{Groups}
use Rattle.group_tree.specs.Node.{Branch}

-- the last name of a path; empty for the root
abbrev pub last_name : Path → Name
last_name [] = []
last_name (n ∷ []) = n
last_name (n ∷ m ∷ p) = last_name (m ∷ p)

-- p is a child of g
abbrev pub is_child : Path → Path → Bool
is_child g p = not (is_root p) && same_path (parent p) g

-- the last names of those of these groups that are children of g, in the same order
abbrev pub child_names : List Path → Path → List Name
child_names paths g = map last_name (filter (is_child g) paths)

-- the names of a group's children; None if there is no such group
abbrev pub NamesChildren : Groups → Path → Option (List Name) → Type 0
NamesChildren m p None = get m p ≡ None
NamesChildren m p (Some names) = IsSome (get m p) × (names ≡ child_names (keys m) p)

-- the names of those nodes that are groups
abbrev pub names_of_groups : List Branch → List Name
names_of_groups [] = []
names_of_groups (kid ∷ kids) = cond (contains_key kid.groups []) (kid.name ∷ names_of_groups kids) (names_of_groups kids)
