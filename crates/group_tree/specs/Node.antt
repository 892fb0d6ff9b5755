-- A node of the tree: its name, and the groups at and below it by their paths from it.
use Rattle.std.specs.Prelude.{◌≡◌, ℕ, ◌+◌, ◌≤◌, IsOk, ◌^◌, ◌%◌, suc, Bool, true, false, cond, List, [], ◌∷◌, ◌++◌, length, Option, Some, None, IsSome, remove, Result, Ok, Err}
use Rattle.std.specs.declared.cmp.Ordering.{Ordering}
use Rattle.std.specs.declared.cmp.Ordering.TheVariants.{Less, Equal, Greater}
use Rattle.std.specs.FinMap as fin
use lib.ListN.{get_or}
use Rattle.smallvec.specs.SmallVec.{SmallVec, small_vec_len, HasRoomFor}
use Rattle.flat_model.specs.Path.{Name, Path, name_cmp, same_path, parent}
use Rattle.group_tree.specs.declared.attr.Attr.{Attr}
use Rattle.group_tree.specs.declared.fault.TreeFault.{TreeFault}
use Rattle.group_tree.specs.declared.fault.TreeFault.TheVariants.{Exists, NoParent, NoGroup, HasChildren, RootFixed, OutOfMemory}
use Rattle.group_tree.specs.Groups.{Groups, descendant_count}

pub record Branch : Type 0 where
  pub name : Name
  pub groups : Groups

abbrev pub GroupEntry : Type 0
GroupEntry = Path × Attr

-- the entries of one child, seen from its parent
abbrev pub under : Name → List GroupEntry → List GroupEntry
under name [] = []
under name (e ∷ es) = (name ∷ e.0, e.1) ∷ under name es

-- the entries of the children, in order
abbrev pub below : List Branch → List GroupEntry
below [] = []
below (kid ∷ kids) = under kid.name (fin.entries kid.groups) ++ below kids

-- the groups at and below a node
unfoldable pub groups_of : Attr → List Branch → Groups
groups_of attr kids = fin.from_sorted (([], attr) ∷ below kids)

-- a node without children
abbrev pub leaf_of : Name → Attr → Branch
leaf_of n attr = record { name = n; groups = groups_of attr [] }

-- each of these comes after the name
abbrev pub AllAbove : Name → List Branch → Type 0
AllAbove name [] = Unit {0}
AllAbove name (kid ∷ kids) = (name_cmp name kid.name ≡ Less) × AllAbove name kids

-- the names strictly ascend
abbrev pub HasAscendingNames : List Branch → Type 0
HasAscendingNames [] = Unit {0}
HasAscendingNames (kid ∷ kids) = AllAbove kid.name kids × HasAscendingNames kids

-- the invariant of a node: its children are in order, and it records how many groups are below it, modulo 2^64
pub record IsNode (kids : List Branch) (descendants : ℕ) : Type 0 where
  pub ascending : HasAscendingNames kids
  pub counted : descendants ≡ length (below kids) % 2 ^ 64

-- an index, one further on
abbrev pub one_on : Result ℕ ℕ → Result ℕ ℕ
one_on (Ok i) = Ok (suc i)
one_on (Err i) = Err (suc i)

-- the index of the child of this name, or the index to insert it at
abbrev pub place_by : Ordering → Result ℕ ℕ → Result ℕ ℕ
place_by Less later = Err 0
place_by Equal later = Ok 0
place_by Greater later = one_on later

abbrev pub place_of : Name → List Branch → Result ℕ ℕ
place_of name [] = Err 0
place_of name (kid ∷ kids) = place_by (name_cmp name kid.name) (place_of name kids)

-- the new map has this value at the path, and everywhere else that of the old map
abbrev pub IsUpdated : Groups → Groups → Path → Option Attr → Type 0
IsUpdated old new p w = (q : Path) → fin.get new q ≡ cond (same_path q p) w (fin.get old q)

-- what inserting a group at p, seen from a node, returns and leaves there
abbrev pub NodeInserts : Groups → Groups → Path → Attr → Result (Unit {0}) TreeFault → Type 0
NodeInserts old new p attr (Ok _) = (fin.get old p ≡ None) × IsSome (fin.get old (parent p)) × IsUpdated old new p (Some attr)
NodeInserts old new p attr (Err Exists) = IsSome (fin.get old p) × (new ≡ old)
NodeInserts old new p attr (Err NoParent) = (fin.get old p ≡ None) × (fin.get old (parent p) ≡ None) × (new ≡ old)
NodeInserts old new p attr (Err OutOfMemory) = (fin.get old p ≡ None) × IsSome (fin.get old (parent p)) × (new ≡ old)
NodeInserts old new p attr (Err NoGroup) = ⊥
NodeInserts old new p attr (Err HasChildren) = ⊥
NodeInserts old new p attr (Err RootFixed) = ⊥

-- what removing p returns and leaves
abbrev pub NodeRemoves : Groups → Groups → Path → Result Attr TreeFault → Type 0
NodeRemoves old new p (Ok attr) = (fin.get old p ≡ Some attr) × ((n : Name) (q : Path) → fin.get old (p ++ n ∷ q) ≡ None) × IsUpdated old new p None
NodeRemoves old new p (Err NoGroup) = (fin.get old p ≡ None) × (new ≡ old)
NodeRemoves old new p (Err HasChildren) = IsSome (fin.get old p) × ((n : Name) × IsSome (fin.get old (p ++ n ∷ []))) × (new ≡ old)
NodeRemoves old new p (Err Exists) = ⊥
NodeRemoves old new p (Err NoParent) = ⊥
NodeRemoves old new p (Err RootFixed) = ⊥
NodeRemoves old new p (Err OutOfMemory) = ⊥

-- whether no group is below
abbrev pub IsLeafOrNot : Groups → Bool → Type 0
IsLeafOrNot m true = (a : Attr) × (m ≡ groups_of a [])
IsLeafOrNot m false = (n : Name) × IsSome (fin.get m (n ∷ []))

-- what removing the child at an index returns and leaves
abbrev pub TakesOut : List Branch → List Branch → ℕ → Result Attr TreeFault → Type 0
TakesOut old new at (Ok attr) = ((d : Branch) → (get_or old at d).groups ≡ groups_of attr []) × (new ≡ remove old at)
TakesOut old new at (Err HasChildren) = ((d : Branch) → IsLeafOrNot (get_or old at d).groups false × IsSome (fin.get (get_or old at d).groups [])) × (new ≡ old)
TakesOut old new at (Err Exists) = ⊥
TakesOut old new at (Err NoParent) = ⊥
TakesOut old new at (Err NoGroup) = ⊥
TakesOut old new at (Err RootFixed) = ⊥
TakesOut old new at (Err OutOfMemory) = ⊥

-- how many groups are below p, modulo 2^64
abbrev pub Counts : Groups → Path → Option ℕ → Type 0
Counts m p None = fin.get m p ≡ None
Counts m p (Some k) = IsSome (fin.get m p) × (k ≡ descendant_count m p % 2 ^ 64)

-- a vector after at most n pushes: if it had room for n more, no push failed and it did not grow
pub record PushesInPlace {E : Type 0} (old new : SmallVec ℕ) (n : ℕ) (r : Result Bool E) : Type 0 where
  pub len : small_vec_len new ≤ small_vec_len old + n
  pub room : HasRoomFor old n → IsOk r × (new.capacity ≡ old.capacity)
