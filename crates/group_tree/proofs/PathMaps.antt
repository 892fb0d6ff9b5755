-- What holds at each path holds of the map.
use Rattle.std.proofs.Common.{◌≡◌, ◌≢◌, Bool, true, false, cond, [], ◌∷◌, ◌++◌, length, refl, ap, sym, ◌∙◌, subst, arith, Result, Ok, Err, Some, None, length-append}
use Rattle.std.specs.FinMap as fin
use Rattle.flat_model.specs.Path.{Name, Path, path_cmp, same_path, strictly_below}
use Rattle.flat_model.proofs.PathLaws.{path_cmp-IsTotalOrder, path_cmp-IsAntisymmetric, same_path_is, at_or_below_is, at_or_below-append, strictly_below_is}
use Rattle.group_tree.specs.declared.attr.Attr.{Attr}
use Rattle.group_tree.specs.declared.fault.TreeFault.{TreeFault}
use Rattle.group_tree.specs.declared.fault.TreeFault.TheVariants.{Exists, NoParent, NoGroup, HasChildren, RootFixed, OutOfMemory}
use Rattle.group_tree.specs.Groups.{Groups, only_root, Inserts, Sets, Removes, HasNoneBelow}
use Rattle.group_tree.specs.Node.{groups_of, IsUpdated, NodeInserts, NodeRemoves}
use Rattle.group_tree.specs.Settings.{NodeSets}
use Rattle.group_tree.proofs.ChildEdits.{get_leaf}
use Rattle.flat_model.proofs.Booleans.{to_false}

pub inserted_map : (old new : Groups) (p : Path) (a : Attr) → IsUpdated old new p (Some a) → new ≡ fin.insert old p a
inserted_map old new p a h = fin.same_map path_cmp-IsTotalOrder path_cmp-IsAntisymmetric new (fin.insert old p a) (λ q. h q ∙ sym (fin.get-insert path_cmp-IsTotalOrder old p a q))

pub removed_map : (old new : Groups) (p : Path) → IsUpdated old new p None → new ≡ fin.remove old p
removed_map old new p h = fin.same_map path_cmp-IsTotalOrder path_cmp-IsAntisymmetric new (fin.remove old p) (λ q. h q ∙ sym (fin.get-remove path_cmp-IsTotalOrder old p q))

-- a node without children has the root alone
pub root_map : (a : Attr) → groups_of a [] ≡ only_root a
root_map a = fin.same_map path_cmp-IsTotalOrder path_cmp-IsAntisymmetric (groups_of a []) (only_root a)
    (λ q. get_leaf a q ∙ ap (cond (same_path q []) (Some a)) (sym (fin.get-empty path_cmp q)) ∙ sym (fin.get-insert path_cmp-IsTotalOrder fin.empty [] a q))

pub inserts : (old new : Groups) (p : Path) (a : Attr) (r : Result (Unit {0}) TreeFault) → NodeInserts old new p a r → Inserts old new p a r
inserts old new p a (Ok u) h = (h.0, h.1, inserted_map old new p a h.2)
inserts old new p a (Err Exists) h = h
inserts old new p a (Err NoParent) h = h
inserts old new p a (Err OutOfMemory) h = h
inserts old new p a (Err NoGroup) h = h
inserts old new p a (Err HasChildren) h = h
inserts old new p a (Err RootFixed) h = h

pub sets : (old new : Groups) (p : Path) (a : Attr) (b : Bool) → NodeSets old new p a b → Sets old new p a b
sets old new p a false h = h
sets old new p a true h = (h.0, inserted_map old new p a h.1)

-- ---- strictly below a path

-- a path strictly below another has its names and at least one more
more_names : (q p rest : Path) → q ≡ p ++ rest → same_path q p ≡ false → (n : Name) × (r : Path) × (q ≡ p ++ n ∷ r)
more_names q p [] e apart =
    let same : q ≡ p = e ∙ append_nil_path p in
    let t : true ≡ false = sym ((same_path_is q p).1 same) ∙ apart in cc
  where
    append_nil_path : (p : Path) → p ++ [] ≡ p
    append_nil_path [] = refl
    append_nil_path (n ∷ p) = ap (λ (x : Path). n ∷ x) (append_nil_path p)
more_names q p (n ∷ r) e apart = (n, r, e)

pub strictly_splits : (q p : Path) → strictly_below q p ≡ true → (n : Name) × (r : Path) × (q ≡ p ++ n ∷ r)
strictly_splits q p h =
    let two = (strictly_below_is q p).0 h in
    let s = (at_or_below_is q p).0 two.0 in
    more_names q p s.0 s.1 two.1

longer : (p : Path) (n : Name) → same_path (p ++ n ∷ []) p ≡ true → ⊥
longer p n e =
    let same = ap length ((same_path_is (p ++ n ∷ []) p).0 e) in
    let two = length-append p (n ∷ []) in
    omega (arith, same, two)

pub child_below : (p : Path) (n : Name) → strictly_below (p ++ n ∷ []) p ≡ true
child_below p n = (strictly_below_is (p ++ n ∷ []) p).1 (at_or_below-append p (n ∷ []), to_false (same_path (p ++ n ∷ []) p) (longer p n))

none_below : (old : Groups) (p : Path) → ((n : Name) (q : Path) → fin.get old (p ++ n ∷ q) ≡ None) → HasNoneBelow old p
none_below old p h q b = let s = strictly_splits q p b in ap (fin.get old) s.2 ∙ h s.0 s.1

removes_of : (old new : Groups) (p : Path) (r : Result Attr TreeFault) → p ≢ [] → NodeRemoves old new p r → Removes old new p r
removes_of old new p (Ok a) root h = (root, h.0, none_below old p h.1, removed_map old new p h.2)
removes_of old new p (Err NoGroup) root h = (root, h.0, h.1)
removes_of old new p (Err HasChildren) root h = (root, h.0, record { path = p ++ h.1.0 ∷ []; below = child_below p h.1.0; there = h.1.1 }, h.2)
removes_of old new p (Err Exists) root h = h
removes_of old new p (Err NoParent) root h = h
removes_of old new p (Err RootFixed) root h = absurd h
removes_of old new p (Err OutOfMemory) root h = h

pub not_root : (n : Name) (p : Path) → n ∷ p ≢ []
not_root n p = λ e. cc

pub removes : (old new m : Groups) (path : Path) (n : Name) (p : Path) (r : Result Attr TreeFault) → m ≡ old → path ≡ n ∷ p → NodeRemoves m new (n ∷ p) r → Removes old new path r
removes old new m path n p r is e h =
    subst (λ (x : Groups). Removes x new path r) is (subst (λ (x : Path). Removes m new x r) (sym e) (removes_of m new (n ∷ p) r (not_root n p) h))
