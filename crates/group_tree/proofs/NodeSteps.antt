-- One step down the tree: what a change below a child is for the node.
use Rattle.std.proofs.Common.{◌≡◌, ℕ, ◌<◌, List, [], ◌∷◌, length, get_or, ap, sym, ◌∙◌, subst, Ok, Option, Some, is_some, IsSome}
use Rattle.std.proofs.Math.ListN.{set}
use Rattle.std.proofs.lemmas.List.{set-get_or, get_or_default}
use Rattle.std.specs.FinMap as fin
use Rattle.flat_model.specs.Path.{Name, Path}
use Rattle.group_tree.specs.declared.attr.Attr.{Attr}
use Rattle.group_tree.specs.Groups.{Groups}
use Rattle.group_tree.specs.Node.{Branch, groups_of, HasAscendingNames, place_of, IsUpdated}
use Rattle.group_tree.proofs.Children.{found, get_root, get_child, below_get}
use Rattle.group_tree.proofs.ChildEdits.{Edited, replaced, lifted}

-- a node before and after a change below its child n
pub record Step (old new : Groups) (n : Name) (kid after : Groups) : Type 0 where
  pub gets : (q : Path) → fin.get old (n ∷ q) ≡ fin.get kid q
  pub root : IsSome (fin.get old [])
  pub updated : (p : Path) (w : Option Attr) → IsUpdated kid after p w → IsUpdated old new (n ∷ p) w
  pub same : after ≡ kid → new ≡ old

-- the kid at a place, whatever the default
pub kid_there : (kids : List Branch) (i : ℕ) (kid : Branch) → i < length kids → kid ≡ get_or kids i kid → (d : Branch) → kid ≡ get_or kids i d
kid_there kids i kid h is d = is ∙ get_or_default kids i kid d h

pub some_root : (attr : Attr) (kids : List Branch) → HasAscendingNames kids → IsSome (fin.get (groups_of attr kids) [])
some_root attr kids h = ap is_some (get_root attr kids h)

pub root_is_some : (attr : Attr) (kids : List Branch) (b : Branch) (nm : Name)
    → ◌≡◌ {A = Branch} (record { name = nm; groups = groups_of attr kids }) b → HasAscendingNames kids → IsSome (fin.get b.groups [])
root_is_some attr kids b nm is h = subst (λ (c : Branch). IsSome (fin.get c.groups [])) is (some_root attr kids h)

-- a child that is changed in place
pub edited_at : (kids slice : List Branch) (n : Name) (i : ℕ) (kid after : Branch) → HasAscendingNames kids → Ok i ≡ place_of n slice
    → slice ≡ kids → kid ≡ get_or kids i kid → after.name ≡ kid.name → Edited kids (set kids i after) n (λ q. fin.get after.groups q)
edited_at kids slice n i kid after h at s item named =
    let place : place_of n kids ≡ Ok i = ap (place_of n) (sym s) ∙ sym at in
    let f = found n kids i place in
    replaced n kids i after place h (λ d. named ∙ ap (λ (b : Branch). b.name) (kid_there kids i kid f.bound item d))

pub step_at : (attr : Attr) (kids slice : List Branch) (n : Name) (i : ℕ) (kid after : Branch) → HasAscendingNames kids
    → Ok i ≡ place_of n slice → slice ≡ kids → kid ≡ get_or kids i kid → after.name ≡ kid.name
    → Step (groups_of attr kids) (groups_of attr (set kids i after)) n kid.groups after.groups
step_at attr kids slice n i kid after h at s item named =
    let place : place_of n kids ≡ Ok i = ap (place_of n) (sym s) ∙ sym at in
    let f = found n kids i place in
    let gives : (q : Path) → below_get kids n q ≡ fin.get kid.groups q = λ q. f.has kid q ∙ ap (λ (b : Branch). fin.get b.groups q) (sym item) in
    record {
      gets = λ q. get_child attr kids n q h ∙ gives q;
      root = some_root attr kids h;
      updated = λ p w u. lifted attr kids (set kids i after) n p w (fin.get kid.groups) (fin.get after.groups) h (edited_at kids slice n i kid after h at s item named) gives u;
      same = λ e.
          let b : after ≡ kid = λ j. record { name = named j; groups = e j } in
          ap (λ (x : Branch). groups_of attr (set kids i x)) (b ∙ item) ∙ ap (groups_of attr) (set-get_or kids i kid);
    }

-- what the node itself has
pub own_attr : (attr : Attr) (kids : List Branch) (b : Branch) (nm : Name)
    → ◌≡◌ {A = Branch} (record { name = nm; groups = groups_of attr kids }) b → HasAscendingNames kids → Some attr ≡ fin.get b.groups []
own_attr attr kids b nm is h = sym (get_root attr kids h) ∙ ap (λ (c : Branch). fin.get c.groups []) is
