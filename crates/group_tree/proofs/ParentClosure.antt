-- Each change keeps the root and the parent of each group.
use Rattle.std.proofs.Common.{◌≡◌, ◌≢◌, Bool, true, false, cond, [], ◌∷◌, ◌++◌, refl, ap, sym, ◌∙◌, subst, Result, Ok, Err, Option, Some, None, IsSome, is_some}
use Rattle.std.specs.declared.cmp.Ordering.TheVariants.{Less, Equal, Greater}
use Rattle.std.specs.Ordering.{is_eq}
use Rattle.std.specs.FinMap as fin
use Rattle.flat_model.specs.Path.{Name, Path, path_cmp, same_path, parent}
use Rattle.flat_model.proofs.PathLaws.{path_cmp-IsAntisymmetric}
use Rattle.group_tree.specs.declared.attr.Attr.{Attr}
use Rattle.group_tree.specs.declared.fault.TreeFault.{TreeFault}
use Rattle.group_tree.specs.declared.fault.TreeFault.TheVariants.{Exists, NoParent, NoGroup, HasChildren, RootFixed, OutOfMemory}
use Rattle.group_tree.specs.Groups.{Groups, IsClosed}
use Rattle.group_tree.specs.Node.{groups_of, IsUpdated, NodeInserts, NodeRemoves}
use Rattle.group_tree.specs.Settings.{NodeSets}
use Rattle.group_tree.proofs.Parents.{last_name}
use Rattle.group_tree.proofs.ChildEdits.{get_leaf}

some_either : {A : Type 0} (b : Bool) (a : A) (x : Option A) → IsSome x → IsSome (cond b (Some a) x)
some_either true a x h = refl
some_either false a x h = h

-- a map that has the parent of what is put stays closed
closed_updated : (old new : Groups) (p : Path) (a : Attr) → IsClosed old → IsSome (fin.get old (parent p)) → IsUpdated old new p (Some a) → IsClosed new
closed_updated old new p a c par u =
    let kept : (q : Path) → IsSome (fin.get old q) → IsSome (fin.get new q) = λ q h. subst IsSome (sym (u q)) (some_either (same_path q p) a (fin.get old q) h) in
    record {
      root = kept [] c.root;
      parents = λ q h.
          elim (path_cmp q p) as (λ r. path_cmp q p ≡ r → IsSome (cond (is_eq r) (Some a) (fin.get old q)) → IsSome (fin.get new (parent q))) [
            | Less ↦ λ e k. kept (parent q) (c.parents q k)
            | Equal ↦ λ e k. let same : q ≡ p = path_cmp-IsAntisymmetric q p e in kept (parent q) (subst (λ (x : Path). IsSome (fin.get old (parent x))) (sym same) par)
            | Greater ↦ λ e k. kept (parent q) (c.parents q k)
          ] refl (subst IsSome (u q) h);
    }

pub closed_inserts : (old new : Groups) (p : Path) (a : Attr) (r : Result (Unit {0}) TreeFault) → IsClosed old → NodeInserts old new p a r → IsClosed new
closed_inserts old new p a (Ok u) c h = closed_updated old new p a c h.1 h.2
closed_inserts old new p a (Err Exists) c h = subst IsClosed (sym h.1) c
closed_inserts old new p a (Err NoParent) c h = subst IsClosed (sym h.2) c
closed_inserts old new p a (Err OutOfMemory) c h = subst IsClosed (sym h.2) c
closed_inserts old new p a (Err NoGroup) c h = absurd h
closed_inserts old new p a (Err HasChildren) c h = absurd h
closed_inserts old new p a (Err RootFixed) c h = absurd h

pub closed_sets : (old new : Groups) (p : Path) (a : Attr) (r : Bool) → IsClosed old → NodeSets old new p a r → IsClosed new
closed_sets old new p a false c h = subst IsClosed (sym h.1) c
closed_sets old new p a true c h = closed_updated old new p a c (c.parents p h.0) h.1

pub closed_root : (a : Attr) → IsClosed (groups_of a [])
closed_root a = record {
  root = ap is_some (get_leaf a []);
  parents = λ q. elim q as (λ x. IsSome (fin.get (groups_of a []) x) → IsSome (fin.get (groups_of a []) (parent x))) [
    | [] ↦ λ h. h
    | m ∷ x ↦ λ h. let no : is_some {T = Attr} None ≡ true = subst IsSome (get_leaf a (m ∷ x)) h in cc
  ];
}

kept_other : {A : Type 0} (t : Bool) (x : Option A) → IsSome (cond t None x) → IsSome x
kept_other true x h = cc
kept_other false x h = h

not_here : {A : Type 0} (t : Bool) (x : Option A) → t ≡ false → IsSome x → IsSome (cond t None x)
not_here true x e h = cc
not_here false x e h = h

none_is : {A : Type 0} (o : Option A) → o ≡ None → IsSome o → ⊥
none_is {A} o e h = let k : is_some {T = A} None ≡ true = subst (λ (x : Option A). is_some x ≡ true) e h in cc

-- no path that has its parent at p is there
apart : (old : Groups) (p q : Path) → p ≢ [] → ((n : Name) (r : Path) → fin.get old (p ++ n ∷ r) ≡ None) → IsSome (fin.get old q) → same_path (parent q) p ≡ false
apart old p [] root none h =
    elim (path_cmp [] p) as (λ r. path_cmp [] p ≡ r → is_eq r ≡ false) [
      | Less ↦ λ e. refl
      | Equal ↦ λ e. absurd (root (sym (path_cmp-IsAntisymmetric [] p e)))
      | Greater ↦ λ e. refl
    ] refl
apart old p (m ∷ q) root none h =
    elim (path_cmp (parent (m ∷ q)) p) as (λ r. path_cmp (parent (m ∷ q)) p ≡ r → is_eq r ≡ false) [
      | Less ↦ λ e. refl
      | Equal ↦ λ e.
          let same : parent (m ∷ q) ≡ p = path_cmp-IsAntisymmetric (parent (m ∷ q)) p e in
          let l = last_name q m in
          let is : m ∷ q ≡ p ++ l.0 ∷ [] = l.1 ∙ ap (λ (x : Path). x ++ l.0 ∷ []) same in
          absurd (none_is (fin.get old (m ∷ q)) (ap (fin.get old) is ∙ none l.0 []) h)
      | Greater ↦ λ e. refl
    ] refl

pub closed_removes : (old new : Groups) (p : Path) (r : Result Attr TreeFault) → p ≢ [] → IsClosed old → NodeRemoves old new p r → IsClosed new
closed_removes old new p (Ok a) root c h =
    let kept : (q : Path) → same_path q p ≡ false → IsSome (fin.get old q) → IsSome (fin.get new q) = λ q e k. subst IsSome (sym (h.2 q)) (not_here (same_path q p) (fin.get old q) e k) in
    record {
      root = kept [] (apart old p [] root h.1 c.root) c.root;
      parents = λ q k.
          let was : IsSome (fin.get old q) = kept_other (same_path q p) (fin.get old q) (subst IsSome (h.2 q) k) in
          kept (parent q) (apart old p q root h.1 was) (c.parents q was);
    }
closed_removes old new p (Err NoGroup) root c h = subst IsClosed (sym h.1) c
closed_removes old new p (Err HasChildren) root c h = subst IsClosed (sym h.2) c
closed_removes old new p (Err Exists) root c h = absurd h
closed_removes old new p (Err NoParent) root c h = absurd h
closed_removes old new p (Err RootFixed) root c h = absurd h
closed_removes old new p (Err OutOfMemory) root c h = absurd h
