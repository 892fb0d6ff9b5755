-- What a removal below a child, or of a child, is for the node.
use Rattle.std.proofs.Common.{◌≡◌, ℕ, ◌<◌, true, false, cond, List, [], ◌∷◌, ◌++◌, length, get_or, refl, ap, sym, ◌∙◌, subst, arith, Result, Ok, Err, Some, None, is_some, IsSome, ◌==◌}
use Rattle.std.proofs.Math.ListN.{set}
use Rattle.std.specs.List.{remove}
use Rattle.std.specs.FinMap as fin
use Rattle.std.specs.Ordering.{eq_by_cmp, is_eq}
use Rattle.std.specs.Cmp.{tied_itself}
use Rattle.std.specs.Cmp.Lexicographic.{nat_list_cmp_total}
use Rattle.flat_model.specs.Path.{Name, Path, path_cmp}
use Rattle.group_tree.specs.declared.attr.Attr.{Attr}
use Rattle.group_tree.specs.declared.fault.TreeFault.{TreeFault}
use Rattle.group_tree.specs.declared.fault.TreeFault.TheVariants.{Exists, NoParent, NoGroup, HasChildren, RootFixed, OutOfMemory}
use Rattle.group_tree.specs.Groups.{Groups}
use Rattle.group_tree.specs.Node.{Branch, groups_of, HasAscendingNames, place_of, IsUpdated, NodeRemoves, TakesOut, IsLeafOrNot}
use Rattle.group_tree.proofs.Children.{found, get_child, below_get}
use Rattle.group_tree.proofs.ChildEdits.{taken_out, lifted, get_leaf}
use Rattle.group_tree.proofs.NodeSteps.{Step, step_at, kid_there}

removes_step : (old new : Groups) (n : Name) (kid after : Groups) (p : Path) (r : Result Attr TreeFault) → Step old new n kid after → NodeRemoves kid after p r → NodeRemoves old new (n ∷ p) r
removes_step old new n kid after p (Ok a) s h = (s.gets p ∙ h.0, λ m q. s.gets (p ++ m ∷ q) ∙ h.1 m q, s.updated p None h.2)
removes_step old new n kid after p (Err NoGroup) s h = (s.gets p ∙ h.0, s.same h.1)
removes_step old new n kid after p (Err HasChildren) s h = (subst IsSome (sym (s.gets p)) h.0, (h.1.0, subst IsSome (sym (s.gets (p ++ h.1.0 ∷ []))) h.1.1), s.same h.2)
removes_step old new n kid after p (Err Exists) s h = h
removes_step old new n kid after p (Err NoParent) s h = h
removes_step old new n kid after p (Err RootFixed) s h = h
removes_step old new n kid after p (Err OutOfMemory) s h = h

pub removes_at : (attr : Attr) (kids slice : List Branch) (kid after : Branch) (n : Name) (names : Path) (m : Name) (p : Path) (i : ℕ)
    (r : Result Attr TreeFault) → HasAscendingNames kids → names ≡ m ∷ p → Ok i ≡ place_of n slice → slice ≡ kids → kid ≡ get_or kids i kid
    → after.name ≡ kid.name → NodeRemoves kid.groups after.groups (m ∷ p) r
    → NodeRemoves (groups_of attr kids) (groups_of attr (set kids i after)) (n ∷ names) r
removes_at attr kids slice kid after n names m p i r h e at s item named rem =
    subst (λ (x : Path). NodeRemoves (groups_of attr kids) (groups_of attr (set kids i after)) (n ∷ x) r) (sym e)
    (removes_step _ _ n _ _ (m ∷ p) r (step_at attr kids slice n i kid after h at s item named) rem)

pub removes_down : (attr : Attr) (kids slice : List Branch) (b kid after : Branch) (nm n : Name) (names : Path) (m : Name) (p : Path)
    (i : ℕ) (r : Result Attr TreeFault) → ◌≡◌ {A = Branch} (record { name = nm; groups = groups_of attr kids }) b → HasAscendingNames kids
    → names ≡ m ∷ p → Ok i ≡ place_of n slice → slice ≡ kids → kid ≡ get_or kids i kid → after.name ≡ kid.name
    → NodeRemoves kid.groups after.groups (m ∷ p) r → NodeRemoves b.groups (groups_of attr (set kids i after)) (n ∷ names) r
removes_down attr kids slice b kid after nm n names m p i r is h e at s item named rem =
    subst (λ (c : Branch). NodeRemoves c.groups (groups_of attr (set kids i after)) (n ∷ names) r) is
    (removes_at attr kids slice kid after n names m p i r h e at s item named rem)

own_only : (q : Path) (a : Attr) → None ≡ cond (eq_by_cmp path_cmp q []) None (fin.get (groups_of a []) q)
own_only [] a = refl
own_only (m ∷ q) a = sym (get_leaf a (m ∷ q))

-- a child without children that is taken out
pub record TakenOut (attr : Attr) (kids new : List Branch) (n : Name) (r : Result Attr TreeFault) : Type 0 where
  pub ascending : HasAscendingNames new
  pub removes : NodeRemoves (groups_of attr kids) (groups_of attr new) (n ∷ []) r

takes : (attr : Attr) (d : Branch) (kids new : List Branch) (n : Name) (i : ℕ) (r : Result Attr TreeFault) → HasAscendingNames kids
    → place_of n kids ≡ Ok i → TakesOut kids new i r → TakenOut attr kids new n r
takes attr d kids new n i (Ok a) h place t =
    let f = found n kids i place in
    let gives : (q : Path) → below_get kids n q ≡ fin.get (groups_of a []) q = λ q. f.has d q ∙ ap (λ (x : Groups). fin.get x q) (t.0 d) in
    let e = taken_out n kids i place h in
    let up : IsUpdated (groups_of attr kids) (groups_of attr (remove kids i)) (n ∷ []) None =
    lifted attr kids (remove kids i) n [] None (fin.get (groups_of a [])) (λ q. None) h e gives (λ q. own_only q a) in
    record {
      ascending = subst HasAscendingNames (sym t.1) e.ascending;
      removes = (
        get_child attr kids n [] h ∙ gives [] ∙ get_leaf a [],
        λ m q. get_child attr kids n (m ∷ q) h ∙ gives (m ∷ q) ∙ get_leaf a (m ∷ q),
        subst (λ (x : List Branch). IsUpdated (groups_of attr kids) (groups_of attr x) (n ∷ []) None) (sym t.1) up,
      );
    }
takes attr d kids new n i (Err HasChildren) h place t =
    let f = found n kids i place in
    let one = t.0 d in
    record {
      ascending = subst HasAscendingNames (sym t.1) h;
      removes = (
        subst IsSome (sym (get_child attr kids n [] h ∙ f.has d [])) one.1,
        (one.0.0, subst IsSome (sym (get_child attr kids n (one.0.0 ∷ []) h ∙ f.has d (one.0.0 ∷ []))) one.0.1),
        ap (groups_of attr) t.1,
      );
    }
takes attr d kids new n i (Err NoGroup) h place t = absurd t
takes attr d kids new n i (Err Exists) h place t = absurd t
takes attr d kids new n i (Err NoParent) h place t = absurd t
takes attr d kids new n i (Err RootFixed) h place t = absurd t
takes attr d kids new n i (Err OutOfMemory) h place t = absurd t

pub taken : (attr : Attr) (kids slice new : List Branch) (b : Branch) (n : Name) (i : ℕ) (r : Result Attr TreeFault)
    → HasAscendingNames kids → Ok i ≡ place_of n slice → slice ≡ kids → TakesOut kids new i r → TakenOut attr kids new n r
taken attr kids slice new b n i r h at s t = takes attr b kids new n i r h (ap (place_of n) (sym s) ∙ sym at) t

pub removes_here : (attr : Attr) (kids slice new : List Branch) (b : Branch) (nm n : Name) (names : Path) (i : ℕ)
    (r : Result Attr TreeFault) → ◌≡◌ {A = Branch} (record { name = nm; groups = groups_of attr kids }) b → HasAscendingNames kids
    → names ≡ [] → Ok i ≡ place_of n slice → slice ≡ kids → TakesOut kids new i r → NodeRemoves b.groups (groups_of attr new) (n ∷ names) r
removes_here attr kids slice new b nm n names i r is h e at s t =
    let now = (taken attr kids slice new b n i r h at s t).removes in
    let there : NodeRemoves (groups_of attr kids) (groups_of attr new) (n ∷ names) r = subst (λ (x : Path). NodeRemoves (groups_of attr kids) (groups_of attr new) (n ∷ x) r) (sym e) now in
    subst (λ (c : Branch). NodeRemoves c.groups (groups_of attr new) (n ∷ names) r) is there

pub leaf_is : (m : Groups) (attr : Attr) → IsLeafOrNot m true → Some attr ≡ fin.get m [] → m ≡ groups_of attr []
leaf_is m attr l e =
    let s : Some attr ≡ Some l.0 = e ∙ ap (λ (x : Groups). fin.get x []) l.1 ∙ get_leaf l.0 [] in
    let a : attr ≡ l.0 = cc in
    l.1 ∙ ap (λ (x : Attr). groups_of x []) (sym a)

first_child : (attr : Attr) (kids : List Branch) (kid : Branch) (a : Attr) → HasAscendingNames kids → (length kids == 0) ≡ false
    → kid ≡ get_or kids 0 kid → Some a ≡ fin.get kid.groups [] → IsLeafOrNot (groups_of attr kids) false
first_child attr [] kid a h some item root = cc
first_child attr (k ∷ kids) kid a h some item root =
    let e : fin.get (groups_of attr (k ∷ kids)) (k.name ∷ []) ≡ Some a =
    get_child attr (k ∷ kids) k.name [] h
    ∙ ap (λ r. cond (is_eq r) (fin.get k.groups []) (below_get kids k.name [])) (tied_itself nat_list_cmp_total k.name)
    ∙ ap (λ (x : Branch). fin.get x.groups []) (sym item) ∙ sym root in
    (k.name, ap is_some e)

pub has_child : (attr : Attr) (kids slice : List Branch) (b kid : Branch) (nm : Name) (a : Attr)
    → ◌≡◌ {A = Branch} (record { name = nm; groups = groups_of attr kids }) b → HasAscendingNames kids → slice ≡ kids
    → (length slice == 0) ≡ false → kid ≡ get_or slice 0 kid → Some a ≡ fin.get kid.groups [] → IsLeafOrNot b.groups false
has_child attr kids slice b kid nm a is h s some item root =
    subst (λ (c : Branch). IsLeafOrNot c.groups false) is (first_child attr kids kid a h (ap (λ (x : List Branch). length x == 0) (sym s)
    ∙ some) (item ∙ ap (λ (x : List Branch). get_or x 0 kid) s) root)

pub there_is : (items slice : List Branch) (at len : ℕ) (kid : Branch) (attr : Attr) → slice ≡ items → length slice ≡ len → at < len
    → kid ≡ get_or slice at kid → kid.groups ≡ groups_of attr [] → (d : Branch) → (get_or items at d).groups ≡ groups_of attr []
there_is items slice at len kid attr s l b item leaf d =
    let bound : at < length slice = omega (arith, l, b) in
    ap (λ (x : Branch). x.groups) (ap (λ (x : List Branch). get_or x at d) (sym s) ∙ sym (kid_there slice at kid bound item d)) ∙ leaf

pub there_is_not : (items slice : List Branch) (at len : ℕ) (kid : Branch) (attr : Attr) → slice ≡ items → length slice ≡ len → at < len
    → kid ≡ get_or slice at kid → IsLeafOrNot kid.groups false → Some attr ≡ fin.get kid.groups [] → (d : Branch)
    → IsLeafOrNot (get_or items at d).groups false × IsSome (fin.get (get_or items at d).groups [])
there_is_not items slice at len kid attr s l b item not_leaf own d =
    let bound : at < length slice = omega (arith, l, b) in
    let there : IsSome (fin.get kid.groups []) = subst IsSome own refl in
    subst (λ (x : Branch). IsLeafOrNot x.groups false × IsSome (fin.get x.groups [])) (kid_there slice at kid bound item d ∙ ap (λ (x : List Branch). get_or x at d) s) (not_leaf, there)
