-- How many groups are below a node, kept along each change.
use Rattle.std.proofs.Common.{◌≡◌, ◌≢◌, ℕ, ◌+◌, ◌-◌, ◌^◌, ◌%◌, ◌<◌, Bool, true, false, cond, List, length, ap, sym, ◌∙◌, arith, Ok, Err, Option, Some, None, IsSome, is_some}
use Rattle.std.proofs.Math.Nat.{mod-add-mod, add-mod_right}
use Rattle.std.specs.FinMap as fin
use Rattle.flat_model.specs.Path.{Name, Path}
use Rattle.flat_model.proofs.PathLaws.{path_cmp-IsTotalOrder}
use Rattle.group_tree.specs.declared.attr.Attr.{Attr}
use Rattle.group_tree.specs.declared.fault.TreeFault.{TreeFault}
use Rattle.group_tree.specs.declared.fault.TreeFault.TheVariants.{Exists, NoParent, NoGroup, HasChildren, RootFixed, OutOfMemory}
use Rattle.group_tree.specs.Groups.{Groups}
use Rattle.group_tree.specs.Node.{Branch, below, groups_of, HasAscendingNames, IsNode, IsUpdated, NodeInserts, NodeRemoves}
use Rattle.group_tree.specs.Sorted.{entries_of_node}
use Rattle.group_tree.specs.Settings.{NodeSets}
use Rattle.group_tree.proofs.PathMaps.{inserted_map, removed_map}

-- one more, and one less, of a number that is kept modulo m
more : (m l k d e : ℕ) → 1 < m → d ≡ l % m → k ≡ l + 1 → e ≡ (d + 1) % m → e ≡ k % m
more m l k d e b was is now = let z = mod-add-mod l m 1 in now ∙ ap (λ (x : ℕ). (x + 1) % m) was ∙ z ∙ ap (λ (x : ℕ). x % m) (sym is)

less : (m l k d e : ℕ) → 1 < m → d ≡ l % m → l ≡ k + 1 → e ≡ (d + (m - 1)) % m → e ≡ k % m
less m l k d e b was is now =
    let wrap : l + (m - 1) ≡ k + m = omega arith in
    now ∙ ap (λ (x : ℕ). (x + (m - 1)) % m) was ∙ mod-add-mod l m (m - 1) ∙ ap (λ (x : ℕ). x % m) wrap ∙ add-mod_right k m

pub len-node : (attr : Attr) (kids : List Branch) → HasAscendingNames kids → fin.len (groups_of attr kids) ≡ length (below kids) + 1
len-node attr kids h = let e = fin.len-entries (groups_of attr kids) in let f = ap length (entries_of_node attr kids h) in omega (arith, e, f)

-- a node's groups, by the map that the node is seen as
node_len : (attr : Attr) (kids : List Branch) (b : Branch) (nm : Name)
    → ◌≡◌ {A = Branch} (record { name = nm; groups = groups_of attr kids }) b → HasAscendingNames kids
    → fin.len b.groups ≡ length (below kids) + 1
node_len attr kids b nm is h = ap (λ (x : Branch). fin.len x.groups) (sym is) ∙ len-node attr kids h

pub has_some : (attr : Attr) (kids : List Branch) (b : Branch) (nm : Name) → ◌≡◌ {A = Branch} (record { name = nm; groups = groups_of attr kids }) b → HasAscendingNames kids → fin.len b.groups ≢ 0
has_some attr kids b nm is h none = let e = node_len attr kids b nm is h in absurd (omega (arith, e, none))

pub kept_count : (attr : Attr) (kids : List Branch) (b : Branch) (nm : Name) (d : ℕ)
    → ◌≡◌ {A = Branch} (record { name = nm; groups = groups_of attr kids }) b → IsNode kids d → d ≡ (fin.len b.groups - 1) % 2 ^ 64
kept_count attr kids b nm d is h =
    let e = node_len attr kids b nm is h.ascending in
    let one : length (below kids) ≡ fin.len b.groups - 1 = omega (arith, e) in
    h.counted ∙ ap (λ (x : ℕ). x % 2 ^ 64) one

-- ---- along each change

some_is : {A : Type 0} (o : Option A) (a : A) → o ≡ Some a → is_some o ≡ true
some_is o a e = ap is_some e

put_new : (old new : Groups) (p : Path) (a : Attr) → fin.get old p ≡ None → IsUpdated old new p (Some a) → fin.len new ≡ fin.len old + 1
put_new old new p a free u =
    ap fin.len (inserted_map old new p a u) ∙ fin.len-insert path_cmp-IsTotalOrder old p a ∙ ap (λ b. cond b (fin.len old) (fin.len old + 1)) (ap is_some free)

put_over : (old new : Groups) (p : Path) (a : Attr) → IsSome (fin.get old p) → IsUpdated old new p (Some a) → fin.len new ≡ fin.len old
put_over old new p a there u =
    ap fin.len (inserted_map old new p a u) ∙ fin.len-insert path_cmp-IsTotalOrder old p a ∙ ap (λ b. cond b (fin.len old) (fin.len old + 1)) there

took : (old new : Groups) (p : Path) (a : Attr) → fin.get old p ≡ Some a → IsUpdated old new p None → fin.len new ≡ fin.len old - 1
took old new p a there u =
    ap fin.len (removed_map old new p u) ∙ fin.len-remove path_cmp-IsTotalOrder old p ∙ ap (λ b. cond b (fin.len old - 1) (fin.len old)) (ap is_some there)

module _ (attr : Attr) (kids new : List Branch) (d : ℕ) (was : IsNode kids d) (ascending : HasAscendingNames new) where
  -- the same groups, also with other attributes of the node
  pub kept_node : groups_of attr new ≡ groups_of attr kids → IsNode new d
  kept_node e =
      let a = len-node attr kids was.ascending in
      let b = len-node attr new ascending in
      let c = ap fin.len e in
      let same : length (below kids) ≡ length (below new) = omega (arith, a, b, c) in
      record { ascending = ascending; counted = was.counted ∙ ap (λ (x : ℕ). x % 2 ^ 64) same }

  pub grown_node : (e : ℕ) (p : Path) (a : Attr) (u : Unit {0}) → NodeInserts (groups_of attr kids) (groups_of attr new) p a (Ok u) → e ≡ (d + 1) % 2 ^ 64 → IsNode new e
  grown_node e p a u h now =
      let x = len-node attr kids was.ascending in
      let y = len-node attr new ascending in
      let z = put_new (groups_of attr kids) (groups_of attr new) p a h.0 h.2 in
      let one : length (below new) ≡ length (below kids) + 1 = omega (arith, x, y, z) in
      record { ascending = ascending; counted = more (2 ^ 64) (length (below kids)) (length (below new)) d e (omega arith) was.counted one now }

  pub refused_node : (p : Path) (a : Attr) (fault : TreeFault) → NodeInserts (groups_of attr kids) (groups_of attr new) p a (Err fault) → IsNode new d
  refused_node p a Exists h = kept_node h.1
  refused_node p a NoParent h = kept_node h.2
  refused_node p a OutOfMemory h = kept_node h.2
  refused_node p a NoGroup h = absurd h
  refused_node p a HasChildren h = absurd h
  refused_node p a RootFixed h = absurd h

  pub set_node : (p : Path) (a : Attr) (r : Bool) → NodeSets (groups_of attr kids) (groups_of attr new) p a r → IsNode new d
  set_node p a false h = kept_node h.1
  set_node p a true h =
      let x = len-node attr kids was.ascending in
      let y = len-node attr new ascending in
      let z = put_over (groups_of attr kids) (groups_of attr new) p a h.0 h.1 in
      let same : length (below kids) ≡ length (below new) = omega (arith, x, y, z) in
      record { ascending = ascending; counted = was.counted ∙ ap (λ (x : ℕ). x % 2 ^ 64) same }

  pub shrunk_node : (e : ℕ) (p : Path) (a : Attr) → NodeRemoves (groups_of attr kids) (groups_of attr new) p (Ok a) → e ≡ (d + (2 ^ 64 - 1)) % 2 ^ 64 → IsNode new e
  shrunk_node e p a h now =
      let x = len-node attr kids was.ascending in
      let y = len-node attr new ascending in
      let z = took (groups_of attr kids) (groups_of attr new) p a h.0 h.2 in
      let one : length (below kids) ≡ length (below new) + 1 = omega (arith, x, y, z) in
      record { ascending = ascending; counted = less (2 ^ 64) (length (below kids)) (length (below new)) d e (omega arith) was.counted one now }

  pub stayed_node : (p : Path) (fault : TreeFault) → NodeRemoves (groups_of attr kids) (groups_of attr new) p (Err fault) → IsNode new d
  stayed_node p NoGroup h = kept_node h.1
  stayed_node p HasChildren h = kept_node h.2
  stayed_node p Exists h = absurd h
  stayed_node p NoParent h = absurd h
  stayed_node p OutOfMemory h = absurd h
  stayed_node p RootFixed h = absurd h
