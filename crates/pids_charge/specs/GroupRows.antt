-- The rows of groups: their attributes and paths, by the numbers that the tree has in place of slots.
use Rattle.std.specs.Prelude.{ℕ, min, ◌+◌, ◌-◌, ◌<◌, ◌≤◌, ◌≡◌, cond, List, length, get_or, Option, Some, None, IsSome, map, option_map}
use Rattle.std.specs.FinMap as fin
use Rattle.flat_model.specs.Path.{Path, parent, at_or_below}
use Rattle.flat_model.specs.Mapped.{map_values}
use Rattle.group_tree.specs.Groups.{Groups, IsClosed, descendant_count}
use Rattle.group_tree.specs.declared.attr.Attr.{Attr}
use Rattle.pids_charge.specs.Lists.{row_at}
use Rattle.pids_charge.specs.declared.above.Change.{Change}
use Rattle.pids_charge.specs.declared.above.Change.TheVariants.{Raise, Lower}
use Rattle.pids_charge.specs.declared.group.Group.{Group}

-- what the rows say: attributes, how many groups are below, and the rows of parents
abbrev pub attrs_of : List Group → List Attr
attrs_of rows = map (λ r. r.attr) rows

abbrev pub belows_of : List Group → List ℕ
belows_of rows = map (λ r. r.below) rows

abbrev pub ups_of : List Group → List ℕ
ups_of rows = map (λ r. r.up) rows

-- the attributes in the row of a group of the tree
abbrev pub in_row : List Attr → Attr → Attr
in_row rows a = get_or rows a.slot a

-- the groups of the tree, with the attributes in their rows
abbrev pub with_rows : Groups → List Attr → Groups
with_rows tree rows = map_values (in_row rows) tree

-- the group at p, which the tree has with a, has a row
pub record IsInRow (tree : Groups) (rows : List Attr) (p : Path) (a : Attr) : Type 0 where
  pub inside : a.slot < length rows
  pub number : a.slot ≡ row_at (with_rows tree rows) p

-- each group has a row, and no two groups have the same
pub record HasRows (tree : Groups) (rows : List Attr) : Type 0 where
  pub closed : IsClosed tree
  pub each : (p : Path) (a : Attr) → fin.get tree p ≡ Some a → IsInRow tree rows p a
  pub apart : (p q : Path) (a b : Attr) → fin.get tree p ≡ Some a → fin.get tree q ≡ Some b → a.slot ≡ b.slot → p ≡ q

-- the row of each group says which row its parent has
abbrev pub HasParents : Groups → List ℕ → Type 0
HasParents groups ups = (p : Path) → IsSome (fin.get groups p) → get_or ups (row_at groups p) 0 ≡ row_at groups (parent p)

-- the row of each group says how many groups are strictly below it
abbrev pub HasCounts : Groups → List ℕ → Type 0
HasCounts groups belows = (p : Path) → IsSome (fin.get groups p) → get_or belows (row_at groups p) 0 ≡ descendant_count groups p

-- a row that keeps a path is the row of that path in the tree
abbrev pub KeepsPaths : Groups → List (Option Path) → Type 0
KeepsPaths tree kept = (row : ℕ) (p : Path) → get_or kept row None ≡ Some p → option_map (λ a. a.slot) (fin.get tree p) ≡ Some row

-- groups, rows and kept paths agree
pub record HasTable (tree : Groups) (rows : List Group) (kept : List (Option Path)) : Type 0 where
  pub has_rows : HasRows tree (attrs_of rows)
  pub has_parents : HasParents (with_rows tree (attrs_of rows)) (ups_of rows)
  pub has_counts : HasCounts (with_rows tree (attrs_of rows)) (belows_of rows)
  pub keeps_paths : KeepsPaths tree kept

-- it is the row of some group
pub record IsOfGroup (groups : Groups) (at : ℕ) : Type 0 where
  pub path : Path
  pub there : IsSome (fin.get groups path)
  pub here : at ≡ row_at groups path

-- ---- a group is made or removed

-- the tree's groups have these rows, and `at` is the row of the group at p, which has no more than 32 names
pub record IsRowOf (tree : Groups) (rows : List Group) (p : Path) (at : ℕ) : Type 0 where
  pub has_rows : HasRows tree (attrs_of rows)
  pub has_parents : HasParents (with_rows tree (attrs_of rows)) (ups_of rows)
  pub there : IsSome (fin.get (with_rows tree (attrs_of rows)) p)
  pub here : at ≡ row_at (with_rows tree (attrs_of rows)) p
  pub shallow : length p ≤ 32

-- it is the row of some group of some tree
pub record IsRow (rows : List Group) (at : ℕ) : Type 0 where
  pub tree : Groups
  pub path : Path
  pub is : IsRowOf tree rows path at

-- a number of at most `top` after a change; `top` and 0 stay
abbrev pub stepped : ℕ → Change → ℕ → ℕ
stepped top Raise n = min (n + 1) top
stepped top Lower n = n - 1

-- g is applied to the counts in the rows of the group at p and of each group above it, and those of all other groups stay
abbrev pub ChangesCounts : (ℕ → ℕ) → Groups → Path → List ℕ → List ℕ → Type 0
ChangesCounts g groups p old new = (q : Path) → IsSome (fin.get groups q)
    → get_or new (row_at groups q) 0 ≡ cond (at_or_below p q) (g (get_or old (row_at groups q) 0)) (get_or old (row_at groups q) 0)
