-- The tree as a finite map from paths to attributes, and what each call returns and leaves.
use Rattle.std.specs.Prelude.{◌≡◌, ◌≢◌, ℕ, Bool, true, false, List, [], map, Option, Some, None, IsSome, filter, not, count_by, Result, Ok, Err}
use Rattle.std.specs.FinMap.{FinMap, get, insert, remove, keys, empty}
use Rattle.flat_model.specs.Path.{Path, path_cmp, strictly_below, is_root, parent, upward}
use Rattle.group_tree.specs.declared.attr.Attr.{Attr}
use Rattle.group_tree.specs.declared.fault.TreeFault.{TreeFault}
use Rattle.group_tree.specs.declared.fault.TreeFault.TheVariants.{Exists, NoParent, NoGroup, HasChildren, RootFixed, OutOfMemory}

-- groups by their paths
abbrev pub Groups : Type 0
Groups = FinMap path_cmp Attr

-- the map has the root and the parent of each group, and so each prefix of a group's path
pub record IsClosed (m : Groups) : Type 0 where
  pub root : IsSome (get m [])
  pub parents : (p : Path) → IsSome (get m p) → IsSome (get m (parent p))

-- the root and no other group
abbrev pub only_root : Attr → Groups
only_root attr = insert empty [] attr

-- how many groups are strictly below p
abbrev pub descendant_count : Groups → Path → ℕ
descendant_count m p = count_by (λ q. strictly_below q p) (keys m)

-- some group is strictly below p
pub record HasBelow (m : Groups) (p : Path) : Type 0 where
  pub path : Path
  pub below : strictly_below path p ≡ true
  pub there : IsSome (get m path)

-- no group is strictly below p
abbrev pub HasNoneBelow : Groups → Path → Type 0
HasNoneBelow m p = (q : Path) → strictly_below q p ≡ true → get m q ≡ None

-- the slot of a group
abbrev pub slot_of : Option Attr → ℕ
slot_of None = 0
slot_of (Some attr) = attr.slot

-- the groups from p upward, without the root
abbrev pub groups_upward : Path → List Path
groups_upward p = filter (λ q. not (is_root q)) (upward p)

-- their slots
abbrev pub chain_of : Groups → Path → List ℕ
chain_of m p = map (λ q. slot_of (get m q)) (groups_upward p)

-- what inserting a group at p returns and leaves
abbrev pub Inserts : Groups → Groups → Path → Attr → Result (Unit {0}) TreeFault → Type 0
Inserts old new p attr (Ok _) = (get old p ≡ None) × IsSome (get old (parent p)) × (new ≡ insert old p attr)
Inserts old new p attr (Err Exists) = IsSome (get old p) × (new ≡ old)
Inserts old new p attr (Err NoParent) = (get old p ≡ None) × (get old (parent p) ≡ None) × (new ≡ old)
Inserts old new p attr (Err OutOfMemory) = (get old p ≡ None) × IsSome (get old (parent p)) × (new ≡ old)
Inserts old new p attr (Err NoGroup) = ⊥
Inserts old new p attr (Err HasChildren) = ⊥
Inserts old new p attr (Err RootFixed) = ⊥

-- what setting the attributes at p returns and leaves
abbrev pub Sets : Groups → Groups → Path → Attr → Bool → Type 0
Sets old new p attr true = IsSome (get old p) × (new ≡ insert old p attr)
Sets old new p attr false = (get old p ≡ None) × (new ≡ old)

-- what removing p returns and leaves
abbrev pub Removes : Groups → Groups → Path → Result Attr TreeFault → Type 0
Removes old new p (Ok attr) = (p ≢ []) × (get old p ≡ Some attr) × HasNoneBelow old p × (new ≡ remove old p)
Removes old new p (Err RootFixed) = (p ≡ []) × (new ≡ old)
Removes old new p (Err NoGroup) = (p ≢ []) × (get old p ≡ None) × (new ≡ old)
Removes old new p (Err HasChildren) = (p ≢ []) × IsSome (get old p) × HasBelow old p × (new ≡ old)
Removes old new p (Err Exists) = ⊥
Removes old new p (Err NoParent) = ⊥
Removes old new p (Err OutOfMemory) = ⊥
