-- A new group, below a child or as a child, as the node sees it.
use Rattle.std.proofs.Common.{◌≡◌, ℕ, List, [], ◌∷◌, get_or, true, refl, ap, sym, ◌∙◌, subst, Result, Ok, Err, Option, Some, None, is_some, IsSome}
use Rattle.std.proofs.Math.ListN.{set}
use Rattle.std.specs.List.{insert}
use Rattle.std.specs.FinMap as fin
use Rattle.flat_model.specs.Path.{Name, Path, parent}
use Rattle.group_tree.specs.declared.attr.Attr.{Attr}
use Rattle.group_tree.specs.declared.fault.TreeFault.{TreeFault}
use Rattle.group_tree.specs.declared.fault.TreeFault.TheVariants.{Exists, NoParent, NoGroup, HasChildren, RootFixed, OutOfMemory}
use Rattle.group_tree.specs.Groups.{Groups}
use Rattle.group_tree.specs.Node.{Branch, groups_of, leaf_of, HasAscendingNames, place_of, IsUpdated, NodeInserts}
use Rattle.group_tree.proofs.Parents.{parent-one, parent-cons, parent_gets}
use Rattle.group_tree.proofs.Children.{missing, get_child}
use Rattle.group_tree.proofs.Walk.{find_none}
use Rattle.group_tree.proofs.ChildEdits.{added, lifted, get_leaf}
use Rattle.group_tree.proofs.NodeSteps.{Step, step_at, some_root}

not_both : {A : Type 0} (o : Option A) → o ≡ None → IsSome o → ⊥
not_both {A} o e h = let k : is_some {T = A} None ≡ true = subst (λ (x : Option A). is_some x ≡ true) e h in cc

inserts_step : (old new : Groups) (n : Name) (kid after : Groups) (p : Path) (attr : Attr) (r : Result (Unit {0}) TreeFault)
    → Step old new n kid after → IsSome (fin.get kid []) → NodeInserts kid after p attr r → NodeInserts old new (n ∷ p) attr r
inserts_step old new n kid after [] attr (Ok u) s root h = absurd (not_both _ h.0 root)
inserts_step old new n kid after (m ∷ p) attr (Ok u) s root h =
    (s.gets (m ∷ p) ∙ h.0, subst IsSome (sym (parent_gets old n kid m p s.gets)) h.1, s.updated (m ∷ p) (Some attr) h.2)
inserts_step old new n kid after p attr (Err Exists) s root h = (subst IsSome (sym (s.gets p)) h.0, s.same h.1)
inserts_step old new n kid after [] attr (Err NoParent) s root h = absurd (not_both _ h.0 root)
inserts_step old new n kid after (m ∷ p) attr (Err NoParent) s root h = (s.gets (m ∷ p) ∙ h.0, parent_gets old n kid m p s.gets ∙ h.1, s.same h.2)
inserts_step old new n kid after [] attr (Err OutOfMemory) s root h = absurd (not_both _ h.0 root)
inserts_step old new n kid after (m ∷ p) attr (Err OutOfMemory) s root h = (s.gets (m ∷ p) ∙ h.0, subst IsSome (sym (parent_gets old n kid m p s.gets)) h.1, s.same h.2)
inserts_step old new n kid after p attr (Err NoGroup) s root h = h
inserts_step old new n kid after p attr (Err HasChildren) s root h = h
inserts_step old new n kid after p attr (Err RootFixed) s root h = h

pub inserts_at : (attr : Attr) (kids slice : List Branch) (kid after : Branch) (names : Path) (n : Name) (p : Path) (i : ℕ) (a : Attr)
    (r : Result (Unit {0}) TreeFault) → HasAscendingNames kids → names ≡ n ∷ p → Ok i ≡ place_of n slice → slice ≡ kids
    → kid ≡ get_or kids i kid → after.name ≡ kid.name → IsSome (fin.get kid.groups []) → NodeInserts kid.groups after.groups p a r
    → NodeInserts (groups_of attr kids) (groups_of attr (set kids i after)) names a r
inserts_at attr kids slice kid after names n p i a r h e at s item named root ins =
    subst (λ (x : Path). NodeInserts (groups_of attr kids) (groups_of attr (set kids i after)) x a r) (sym e)
    (inserts_step _ _ n _ _ p a r (step_at attr kids slice n i kid after h at s item named) root ins)

pub inserts_down : (attr : Attr) (kids slice : List Branch) (b kid after : Branch) (nm : Name) (names : Path) (n : Name) (p : Path) (i : ℕ)
    (a : Attr) (r : Result (Unit {0}) TreeFault) → ◌≡◌ {A = Branch} (record { name = nm; groups = groups_of attr kids }) b
    → HasAscendingNames kids → names ≡ n ∷ p → Ok i ≡ place_of n slice → slice ≡ kids → kid ≡ get_or kids i kid → after.name ≡ kid.name
    → IsSome (fin.get kid.groups []) → NodeInserts kid.groups after.groups p a r
    → NodeInserts b.groups (groups_of attr (set kids i after)) names a r
inserts_down attr kids slice b kid after nm names n p i a r is h e at s item named root ins =
    subst (λ (c : Branch). NodeInserts c.groups (groups_of attr (set kids i after)) names a r) is
    (inserts_at attr kids slice kid after names n p i a r h e at s item named root ins)

-- a child that is added
pub record AddsLeaf (attr : Attr) (kids new : List Branch) (names : Path) (a : Attr) : Type 0 where
  pub ascending : HasAscendingNames new
  pub free : fin.get (groups_of attr kids) names ≡ None
  pub above : IsSome (fin.get (groups_of attr kids) (parent names))
  pub updated : IsUpdated (groups_of attr kids) (groups_of attr new) names (Some a)

adds_leaf_by : (attr : Attr) (kids slice : List Branch) (n : Name) (i : ℕ) (a : Attr) → HasAscendingNames kids → Err i ≡ place_of n slice
    → slice ≡ kids → AddsLeaf attr kids (insert kids i (leaf_of n a)) (n ∷ []) a
adds_leaf_by attr kids slice n i a h at s =
    let place : place_of n kids ≡ Err i = ap (place_of n) (sym s) ∙ sym at in
    let e = added n kids i (leaf_of n a) place h refl in
    record {
      ascending = e.ascending;
      free = get_child attr kids n [] h ∙ missing n kids i [] h place;
      above = subst (λ (x : Path). IsSome (fin.get (groups_of attr kids) x)) (sym (parent-one n)) (some_root attr kids h);
      updated = lifted attr kids (insert kids i (leaf_of n a)) n [] (Some a) (λ q. None) (fin.get (leaf_of n a).groups) h e (λ q. missing n kids i q h place) (get_leaf a);
    }

pub adds_leaf : (attr : Attr) (kids slice new : List Branch) (names : Path) (n : Name) (p : Path) (i : ℕ) (a : Attr)
    → HasAscendingNames kids → names ≡ n ∷ p → p ≡ [] → Err i ≡ place_of n slice → slice ≡ kids → new ≡ insert kids i (leaf_of n a)
    → AddsLeaf attr kids new names a
adds_leaf attr kids slice new names n p i a h e none at s is =
    let one : names ≡ n ∷ [] = e ∙ ap (λ (x : Path). n ∷ x) none in
    subst (λ (x : Path). AddsLeaf attr kids new x a) (sym one) (subst (λ (x : List Branch). AddsLeaf attr kids x (n ∷ []) a) (sym is) (adds_leaf_by attr kids slice n i a h at s))

-- two names below a missing child
pub no_parent : (attr : Attr) (kids slice : List Branch) (b : Branch) (nm : Name) (names : Path) (n m : Name) (p q : Path) (i : ℕ)
    (a : Attr) → ◌≡◌ {A = Branch} (record { name = nm; groups = groups_of attr kids }) b → HasAscendingNames kids → names ≡ n ∷ p
    → p ≡ m ∷ q → Err i ≡ place_of n slice → slice ≡ kids → NodeInserts b.groups b.groups names a (Err NoParent)
no_parent attr kids slice b nm names n m p q i a is h e f at s =
    let two : names ≡ n ∷ m ∷ q = e ∙ ap (λ (x : Path). n ∷ x) f in
    (sym (find_none attr kids slice b nm names n p i is h e at s), sym (find_none attr kids slice b nm (parent names) n (parent (m ∷ q)) i is h (ap parent two ∙ parent-cons n m q) at s), refl)

pub leaf_ok : (attr : Attr) (kids slice new : List Branch) (b : Branch) (nm : Name) (names : Path) (n : Name) (p : Path) (i : ℕ) (a : Attr)
    → ◌≡◌ {A = Branch} (record { name = nm; groups = groups_of attr kids }) b → HasAscendingNames kids → names ≡ n ∷ p → p ≡ []
    → Err i ≡ place_of n slice → slice ≡ kids → new ≡ insert kids i (leaf_of n a)
    → NodeInserts b.groups (groups_of attr new) names a (Ok tt)
leaf_ok attr kids slice new b nm names n p i a is h e none at s ins =
    let l = adds_leaf attr kids slice new names n p i a h e none at s ins in
    subst (λ (c : Branch). NodeInserts c.groups (groups_of attr new) names a (Ok tt)) is (l.free, l.above, l.updated)

pub leaf_err : (attr : Attr) (kids slice new : List Branch) (b : Branch) (nm : Name) (names : Path) (n : Name) (p : Path) (i : ℕ) (a : Attr)
    → ◌≡◌ {A = Branch} (record { name = nm; groups = groups_of attr kids }) b → HasAscendingNames kids → names ≡ n ∷ p → p ≡ []
    → Err i ≡ place_of n slice → slice ≡ kids → new ≡ kids → NodeInserts b.groups (groups_of attr new) names a (Err OutOfMemory)
leaf_err attr kids slice new b nm names n p i a is h e none at s same =
    let l = adds_leaf attr kids slice (insert kids i (leaf_of n a)) names n p i a h e none at s refl in
    subst (λ (c : Branch). NodeInserts c.groups (groups_of attr new) names a (Err OutOfMemory)) is (l.free, l.above, ap (groups_of attr) same)
