-- What a call answers, by what the tree had before it.
use Rattle.std.proofs.Common.{◌≡◌, ◌≢◌, ◌↔◌, ◌⊎◌, Bool, true, false, [], Option, Some, None, IsSome, Result, Ok, Err, refl, sym, ap, subst, ◌∙◌, inl, inr, is_some}
use Rattle.std.specs.List.{list_any}
use Rattle.std.specs.FinMap.{get, insert, remove, keys}
use Rattle.std.proofs.lemmas.Bool.{false_from_ne_true}
use Rattle.flat_model.specs.Path.{Path, parent, strictly_below}
use Rattle.group_tree.specs.declared.attr.Attr.{Attr}
use Rattle.group_tree.specs.declared.fault.TreeFault.{TreeFault}
use Rattle.group_tree.specs.declared.fault.TreeFault.TheVariants.{Exists, NoParent, NoGroup, HasChildren, RootFixed, OutOfMemory}
use Rattle.group_tree.specs.Groups.{Groups, HasBelow, HasNoneBelow, Inserts, Sets, Removes}
use Rattle.group_tree.proofs.Flat.{any_below_is}
use Rattle.flat_model.proofs.Booleans.{apart}
use Rattle.flat_model.proofs.Options.{none_is_not_some}

some_is : {X : Type 0} (o : Option X) (x : X) → o ≡ Some x → IsSome o
some_is o x e = ap is_some e

-- ---- a new group

module _ (old new : Groups) (p : Path) (attr : Attr) where
  exists_only : (r : Result (Unit {0}) TreeFault) → IsSome (get old p) → Inserts old new p attr r → (r ≡ Err Exists) × (new ≡ old)
  exists_only (Ok u) s h = absurd (none_is_not_some (get old p) h.0 s)
  exists_only (Err Exists) s h = (refl, h.1)
  exists_only (Err NoParent) s h = absurd (none_is_not_some (get old p) h.0 s)
  exists_only (Err OutOfMemory) s h = absurd (none_is_not_some (get old p) h.0 s)
  exists_only (Err NoGroup) s h = absurd h
  exists_only (Err HasChildren) s h = absurd h
  exists_only (Err RootFixed) s h = absurd h

  pub exists_is : (r : Result (Unit {0}) TreeFault) → IsSome (get old p) → Inserts old new p attr r ↔ ((r ≡ Err Exists) × (new ≡ old))
  exists_is r s = (exists_only r s, λ e. subst (Inserts old new p attr) (sym e.0) (s, e.1))

  parent_only : (r : Result (Unit {0}) TreeFault) → get old p ≡ None → get old (parent p) ≡ None → Inserts old new p attr r → (r ≡ Err NoParent) × (new ≡ old)
  parent_only (Ok u) n m h = absurd (none_is_not_some (get old (parent p)) m h.1)
  parent_only (Err Exists) n m h = absurd (none_is_not_some (get old p) n h.0)
  parent_only (Err NoParent) n m h = (refl, h.2)
  parent_only (Err OutOfMemory) n m h = absurd (none_is_not_some (get old (parent p)) m h.1)
  parent_only (Err NoGroup) n m h = absurd h
  parent_only (Err HasChildren) n m h = absurd h
  parent_only (Err RootFixed) n m h = absurd h

  pub parent_is : (r : Result (Unit {0}) TreeFault) → get old p ≡ None → get old (parent p) ≡ None → Inserts old new p attr r ↔ ((r ≡ Err NoParent) × (new ≡ old))
  parent_is r n m = (parent_only r n m, λ e. subst (Inserts old new p attr) (sym e.0) (n, m, e.1))

  abbrev IsMade : Result (Unit {0}) TreeFault → Type 0
  IsMade r = ((r ≡ Ok tt) × (new ≡ insert old p attr)) ⊎ ((r ≡ Err OutOfMemory) × (new ≡ old))

  made_only : (r : Result (Unit {0}) TreeFault) → get old p ≡ None → IsSome (get old (parent p)) → Inserts old new p attr r → IsMade r
  made_only (Ok u) n s h = inl (refl, h.2)
  made_only (Err Exists) n s h = absurd (none_is_not_some (get old p) n h.0)
  made_only (Err NoParent) n s h = absurd (none_is_not_some (get old (parent p)) h.1 s)
  made_only (Err OutOfMemory) n s h = inr (refl, h.2)
  made_only (Err NoGroup) n s h = absurd h
  made_only (Err HasChildren) n s h = absurd h
  made_only (Err RootFixed) n s h = absurd h

  made_there : (r : Result (Unit {0}) TreeFault) → get old p ≡ None → IsSome (get old (parent p)) → IsMade r → Inserts old new p attr r
  made_there r n s (inl e) = subst (Inserts old new p attr) (sym e.0) (n, s, e.1)
  made_there r n s (inr e) = subst (Inserts old new p attr) (sym e.0) (n, s, e.1)

  pub made_is : (r : Result (Unit {0}) TreeFault) → get old p ≡ None → IsSome (get old (parent p)) → Inserts old new p attr r ↔ IsMade r
  made_is r n s = (made_only r n s, made_there r n s)

  -- ---- new attributes

  set_only : (b : Bool) → IsSome (get old p) → Sets old new p attr b → (b ≡ true) × (new ≡ insert old p attr)
  set_only true s h = (refl, h.1)
  set_only false s h = absurd (none_is_not_some (get old p) h.0 s)

  pub set_is : (b : Bool) → IsSome (get old p) → Sets old new p attr b ↔ ((b ≡ true) × (new ≡ insert old p attr))
  set_is b s = (set_only b s, λ e. subst (Sets old new p attr) (sym e.0) (s, e.1))

  unset_only : (b : Bool) → get old p ≡ None → Sets old new p attr b → (b ≡ false) × (new ≡ old)
  unset_only true n h = absurd (none_is_not_some (get old p) n h.0)
  unset_only false n h = (refl, h.1)

  pub unset_is : (b : Bool) → get old p ≡ None → Sets old new p attr b ↔ ((b ≡ false) × (new ≡ old))
  unset_is b n = (unset_only b n, λ e. subst (Sets old new p attr) (sym e.0) (n, e.1))

-- ---- a removal

clash : (m : Groups) (p : Path) → HasBelow m p → HasNoneBelow m p → ⊥
clash m p h n = none_is_not_some (get m h.path) (n h.path h.below) h.there

root_only : (old new : Groups) (r : Result Attr TreeFault) → Removes old new [] r → (r ≡ Err RootFixed) × (new ≡ old)
root_only old new (Ok a) h = absurd (h.0 refl)
root_only old new (Err RootFixed) h = (refl, h.1)
root_only old new (Err NoGroup) h = absurd (h.0 refl)
root_only old new (Err HasChildren) h = absurd (h.0 refl)
root_only old new (Err Exists) h = absurd h
root_only old new (Err NoParent) h = absurd h
root_only old new (Err OutOfMemory) h = absurd h

pub root_is : (old new : Groups) (r : Result Attr TreeFault) → Removes old new [] r ↔ ((r ≡ Err RootFixed) × (new ≡ old))
root_is old new r = (root_only old new r, λ e. subst (Removes old new []) (sym e.0) (refl, e.1))

module _ (old new : Groups) (p : Path) where
  absent_only : (r : Result Attr TreeFault) → p ≢ [] → get old p ≡ None → Removes old new p r → (r ≡ Err NoGroup) × (new ≡ old)
  absent_only (Ok a) d n h = absurd (none_is_not_some (get old p) n (some_is (get old p) a h.1))
  absent_only (Err RootFixed) d n h = absurd (d h.0)
  absent_only (Err NoGroup) d n h = (refl, h.2)
  absent_only (Err HasChildren) d n h = absurd (none_is_not_some (get old p) n h.1)
  absent_only (Err Exists) d n h = absurd h
  absent_only (Err NoParent) d n h = absurd h
  absent_only (Err OutOfMemory) d n h = absurd h

  pub absent_is : (r : Result Attr TreeFault) → p ≢ [] → get old p ≡ None → Removes old new p r ↔ ((r ≡ Err NoGroup) × (new ≡ old))
  absent_is r d n = (absent_only r d n, λ e. subst (Removes old new p) (sym e.0) (d, n, e.1))

  children_only : (attr : Attr) (r : Result Attr TreeFault) → p ≢ [] → get old p ≡ Some attr → HasBelow old p → Removes old new p r → (r ≡ Err HasChildren) × (new ≡ old)
  children_only attr (Ok a) d s b h = absurd (clash old p b h.2)
  children_only attr (Err RootFixed) d s b h = absurd (d h.0)
  children_only attr (Err NoGroup) d s b h = absurd (none_is_not_some (get old p) h.1 (some_is (get old p) attr s))
  children_only attr (Err HasChildren) d s b h = (refl, h.3)
  children_only attr (Err Exists) d s b h = absurd h
  children_only attr (Err NoParent) d s b h = absurd h
  children_only attr (Err OutOfMemory) d s b h = absurd h

  pub children_is : (attr : Attr) (r : Result Attr TreeFault) → p ≢ [] → get old p ≡ Some attr → HasBelow old p → Removes old new p r ↔ ((r ≡ Err HasChildren) × (new ≡ old))
  children_is attr r d s b = (children_only attr r d s b, λ e. subst (Removes old new p) (sym e.0) (d, some_is (get old p) attr s, b, e.1))

  same_attr : (a b : Attr) → get old p ≡ Some a → get old p ≡ Some b → a ≡ b
  same_attr a b h k = let e : Some a ≡ Some b = sym h ∙ k in cc

  removed_only : (attr : Attr) (r : Result Attr TreeFault) → p ≢ [] → get old p ≡ Some attr → HasNoneBelow old p → Removes old new p r → (r ≡ Ok attr) × (new ≡ remove old p)
  removed_only attr (Ok a) d s b h = (ap Ok (same_attr a attr h.1 s), h.3)
  removed_only attr (Err RootFixed) d s b h = absurd (d h.0)
  removed_only attr (Err NoGroup) d s b h = absurd (none_is_not_some (get old p) h.1 (some_is (get old p) attr s))
  removed_only attr (Err HasChildren) d s b h = absurd (clash old p h.2 b)
  removed_only attr (Err Exists) d s b h = absurd h
  removed_only attr (Err NoParent) d s b h = absurd h
  removed_only attr (Err OutOfMemory) d s b h = absurd h

  pub removed_is : (attr : Attr) (r : Result Attr TreeFault) → p ≢ [] → get old p ≡ Some attr → HasNoneBelow old p → Removes old new p r ↔ ((r ≡ Ok attr) × (new ≡ remove old p))
  removed_is attr r d s b = (removed_only attr r d s b, λ e. subst (Removes old new p) (sym e.0) (d, s, b, e.1))

-- ---- below a path

pub some_below_is : (m : Groups) (p : Path) → HasBelow m p ↔ (list_any (λ q. strictly_below q p) (keys m) ≡ true)
some_below_is m p = let is = any_below_is m p in (is.1, is.0)

nothing : {X : Type 0} (o : Option X) → (IsSome o → ⊥) → o ≡ None
nothing None h = refl
nothing (Some x) h = absurd (h refl)

pub none_below_is : (m : Groups) (p : Path) → HasNoneBelow m p ↔ (list_any (λ q. strictly_below q p) (keys m) ≡ false)
none_below_is m p = (
  λ n. false_from_ne_true (list_any (λ q. strictly_below q p) (keys m)) (λ t. clash m p ((any_below_is m p).0 t) n),
  λ f q b. nothing (get m q) (λ s. apart (list_any (λ q. strictly_below q p) (keys m)) ((any_below_is m p).1 (record { path = q; below = b; there = s })) f),
)
