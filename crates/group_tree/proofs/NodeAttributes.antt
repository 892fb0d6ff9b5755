-- New attributes, of the node itself or below a child, as the node sees them.
use Rattle.std.proofs.Common.{◌≡◌, ℕ, Bool, true, false, cond, List, [], ◌∷◌, get_or, sym, ◌∙◌, subst, Ok, Some, IsSome}
use Rattle.std.proofs.Math.ListN.{set}
use Rattle.std.specs.FinMap as fin
use Rattle.std.specs.Ordering.{eq_by_cmp}
use Rattle.flat_model.specs.Path.{Name, Path, path_cmp}
use Rattle.group_tree.specs.declared.attr.Attr.{Attr}
use Rattle.group_tree.specs.Groups.{Groups}
use Rattle.group_tree.specs.Node.{Branch, groups_of, HasAscendingNames, place_of}
use Rattle.group_tree.specs.Settings.{NodeSets}
use Rattle.group_tree.proofs.Children.{get_root, get_child}
use Rattle.group_tree.proofs.NodeSteps.{Step, step_at, some_root}

own_change : (attr a : Attr) (kids : List Branch) → HasAscendingNames kids → (q : Path) → fin.get (groups_of a kids) q ≡ cond (eq_by_cmp path_cmp q []) (Some a) (fin.get (groups_of attr kids) q)
own_change attr a kids h [] = get_root a kids h
own_change attr a kids h (m ∷ q) = get_child a kids m q h ∙ sym (get_child attr kids m q h)

-- setting what the node itself has
pub sets_here : (attr a : Attr) (kids : List Branch) (b : Branch) (nm : Name) (names : Path)
    → ◌≡◌ {A = Branch} (record { name = nm; groups = groups_of attr kids }) b → HasAscendingNames kids → names ≡ []
    → NodeSets b.groups (groups_of a kids) names a true
sets_here attr a kids b nm names is h e =
    let here : (q : Path) → fin.get (groups_of a kids) q ≡ cond (eq_by_cmp path_cmp q []) (Some a) (fin.get (groups_of attr kids) q) = own_change attr a kids h in
    let there : NodeSets (groups_of attr kids) (groups_of a kids) names a true =
    subst (λ (x : Path). NodeSets (groups_of attr kids) (groups_of a kids) x a true) (sym e) (some_root attr kids h, here) in
    subst (λ (c : Branch). NodeSets c.groups (groups_of a kids) names a true) is there

sets_step : (old new : Groups) (n : Name) (kid after : Groups) (p : Path) (attr : Attr) (r : Bool) → Step old new n kid after → NodeSets kid after p attr r → NodeSets old new (n ∷ p) attr r
sets_step old new n kid after p attr true s h = (subst IsSome (sym (s.gets p)) h.0, s.updated p (Some attr) h.1)
sets_step old new n kid after p attr false s h = (s.gets p ∙ h.0, s.same h.1)

pub sets_at : (attr : Attr) (kids slice : List Branch) (kid after : Branch) (names : Path) (n : Name) (p : Path) (i : ℕ) (a : Attr)
    (r : Bool) → HasAscendingNames kids → names ≡ n ∷ p → Ok i ≡ place_of n slice → slice ≡ kids → kid ≡ get_or kids i kid
    → after.name ≡ kid.name → NodeSets kid.groups after.groups p a r
    → NodeSets (groups_of attr kids) (groups_of attr (set kids i after)) names a r
sets_at attr kids slice kid after names n p i a r h e at s item named ins =
    subst (λ (x : Path). NodeSets (groups_of attr kids) (groups_of attr (set kids i after)) x a r) (sym e)
    (sets_step _ _ n _ _ p a r (step_at attr kids slice n i kid after h at s item named) ins)

pub sets_down : (attr : Attr) (kids slice : List Branch) (b kid after : Branch) (nm : Name) (names : Path) (n : Name) (p : Path) (i : ℕ)
    (a : Attr) (r : Bool) → ◌≡◌ {A = Branch} (record { name = nm; groups = groups_of attr kids }) b → HasAscendingNames kids → names ≡ n ∷ p
    → Ok i ≡ place_of n slice → slice ≡ kids → kid ≡ get_or kids i kid → after.name ≡ kid.name → NodeSets kid.groups after.groups p a r
    → NodeSets b.groups (groups_of attr (set kids i after)) names a r
sets_down attr kids slice b kid after nm names n p i a r is h e at s item named ins =
    subst (λ (c : Branch). NodeSets c.groups (groups_of attr (set kids i after)) names a r) is
    (sets_at attr kids slice kid after names n p i a r h e at s item named ins)
