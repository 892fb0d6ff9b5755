-- When a group may be removed, and what its removal leaves.
use Rattle.std.proofs.Common.{◌≡◌, ℕ, ◌+◌, ◌-◌, ◌<◌, ◌≤◌, ◌⊎◌, ◌&&◌, ◌||◌, inl, inr, Bool, true, false, cond, not, eqb, ltb, Option, Some}
use Rattle.std.proofs.Common.{None, Err, List, [], ◌∷◌, ◌++◌, map, length, take, count_by, IsSome, is_some, refl, sym, ap, ◌∙◌, subst}
use Rattle.std.proofs.Common.{arith, rules, length-append}
use Rattle.std.proofs.lemmas.Bool.{false≢true, ne_eqb, eq-eqb, eqb-true, eqb-false}
use Rattle.std.proofs.lemmas.Bool.Decides.{nat_tests}
use Rattle.std.proofs.lemmas.List.Sums.{sum_by-cons, sum_by-append}
use Rattle.std.proofs.lemmas.List.Elements.{All-head, All-tail, All-cons, All-weaker}
use Rattle.std.specs.List.{All, list_any}
use Rattle.std.specs.Ordering.{nat_cmp}
use Rattle.std.specs.Map.{values_of}
use Rattle.std.specs.FinMap as fin
use Rattle.std.specs.FinMap.Entries.{find}
use Rattle.std.proofs.Math.Seq.{take-length}
use Rattle.flat_model.specs.Path.{Path, path_cmp, is_root, at_or_below, strictly_below, same_path}
use Rattle.flat_model.specs.State.{State}
use Rattle.flat_model.specs.Counts.{is_group, descendant_count, populated}
use Rattle.flat_model.specs.Command.{RemoveGroup, RootFixed, NoGroup, HasChildren, HasProcesses}
use Rattle.flat_model.specs.Refuse.{refuse}
use Rattle.flat_model.specs.Step.{refusal}
use Rattle.flat_model.specs.Mapped.{map_values}
use Rattle.flat_model.proofs.PathLaws.{path_cmp-IsTotalOrder, same_path_is, at_or_below_itself, take_above}
use Rattle.group_tree.specs.Groups.{Groups, IsClosed, slot_of, HasBelow, Removes}
use Rattle.group_tree.specs.Groups as groups
use Rattle.group_tree.specs.Flat.{group_of, CountsAsFlat}
use Rattle.group_tree.specs.declared.attr.Attr.{Attr}
use Rattle.group_tree.specs.declared.fault.TreeFault.{TreeFault}
use Rattle.group_tree.specs.declared.fault.TreeFault.TheVariants as tree
use Rattle.pids_charge.specs.Content.{Content}
use Rattle.pids_charge.specs.Lists.{Row}
use Rattle.pids_charge.specs.Lists.{slot_at}
use Rattle.pids_charge.specs.Recount.{HasSlots, Recounted, IsPlaced, state_of}
use Rattle.process_table.specs.declared.process.Process.{Process}
use Rattle.pids_charge.proofs.FlatGroups.{nonroot, refuse_none, is_there, group-is}
use Rattle.pids_charge.proofs.MeterContents.{all_both, regrouped}
use Rattle.pids_charge.proofs.Entries.{home_rows, to_sorted}

-- ---- the refusals
module _ (slots : ℕ) (s : State) (p : Path) where
  pub remove_root : length p ≡ 0 → refusal slots s (RemoveGroup p) ≡ Some RootFixed
  remove_root h = by p h
    where
      by : (p : Path) → length p ≡ 0 → refusal slots s (RemoveGroup p) ≡ Some RootFixed
      by [] h = refl
      by (n ∷ p) h = absurd (omega (arith, h))

  pub remove_no_group : (n : ℕ) → 0 < length p → is_group s p ≡ false → n ≡ length p → refusal slots s (RemoveGroup p) ≡ Some (NoGroup (take n p))
  remove_no_group n h i e = rw (nonroot p h, i, e, take-length p) refl

  pub remove_children : 0 < length p → is_group s p ≡ true → list_any (λ q. strictly_below q p) (fin.keys s.groups) ≡ true → refusal slots s (RemoveGroup p) ≡ Some HasChildren
  remove_children h i below = rw (nonroot p h, i, below) refl

  pub remove_processes : 0 < length p → is_group s p ≡ true → list_any (λ q. strictly_below q p) (fin.keys s.groups) ≡ false
      → list_any (λ q. same_path q p) (fin.values s.home) ≡ true → refusal slots s (RemoveGroup p) ≡ Some HasProcesses
  remove_processes h i below here = rw (nonroot p h, i, below, here) refl

  pub remove_allowed : 0 < length p → is_group s p ≡ true → list_any (λ q. strictly_below q p) (fin.keys s.groups) ≡ false
      → list_any (λ q. same_path q p) (fin.values s.home) ≡ false → refusal slots s (RemoveGroup p) ≡ None
  remove_allowed h i below here = rw (nonroot p h, i, below, here) refl

-- what the acceptance of a removal says
pub record MayGo (s : State) (p : Path) : Type 0 where
  pub below_root : is_root p ≡ false
  pub there : not (is_group s p) ≡ false
  pub no_children : list_any (λ q. strictly_below q p) (fin.keys s.groups) ≡ false
  pub no_processes : list_any (λ q. same_path q p) (fin.values s.home) ≡ false

pub remove_may : (slots : ℕ) (s : State) (p : Path) → refusal slots s (RemoveGroup p) ≡ None → MayGo s p
remove_may slots s p h =
    let last = refuse (list_any (λ q. same_path q p) (fin.values s.home)) HasProcesses None in
    let third = refuse (list_any (λ q. strictly_below q p) (fin.keys s.groups)) HasChildren last in
    let second = refuse (not (is_group s p)) (NoGroup p) third in
    let a = refuse_none (is_root p) RootFixed second h in
    let b = refuse_none (not (is_group s p)) (NoGroup p) third a.1 in
    let c = refuse_none (list_any (λ q. strictly_below q p) (fin.keys s.groups)) HasChildren last b.1 in
    let d = refuse_none (list_any (λ q. same_path q p) (fin.values s.home)) HasProcesses None c.1 in
    record { below_root = a.0; there = b.0; no_children = c.0; no_processes = d.0 }

-- ---- by the counts
pub any-count : {X : Type 0} (f : X → Bool) (xs : List X) → list_any f xs ≡ ltb 0 (count_by f xs)
any-count f [] = refl
any-count f (x ∷ xs) =
    elim (f x) as (λ b. count_by f (x ∷ xs) ≡ cond b 1 0 + count_by f xs → (b || list_any f xs) ≡ ltb 0 (count_by f (x ∷ xs))) [
      | true ↦ λ e. grind (arith, nat_tests, e)
      | false ↦ λ e. any-count f xs ∙ ap (ltb 0) (sym (omega (arith, e)))
    ] (sum_by-cons (λ y. cond (f y) 1 0) x xs)

-- a home that is not strictly below the group is at it or not below it
same_here : (q p : Path) → strictly_below q p ≡ false → same_path q p ≡ at_or_below q p
same_here q p h =
    elim (same_path q p) as (λ b. same_path q p ≡ b → (at_or_below q p && not b) ≡ false → b ≡ at_or_below q p) [
      | true ↦ λ t h. sym (ap (λ r. at_or_below r p) ((same_path_is q p).0 t) ∙ at_or_below_itself p)
      | false ↦ λ t h. elim (at_or_below q p) as (λ c. (c && true) ≡ false → false ≡ c) [ true ↦ λ e. cc | false ↦ λ e. refl ] h
    ] refl h

not_below : (tree : Groups) → CountsAsFlat tree → (p : Path) → list_any (λ q. strictly_below q p) (fin.keys (map_values group_of tree))
    ≡ false → (q : Path) → IsSome (fin.get tree q) → strictly_below q p ≡ false
not_below tree flat p none q there =
    elim (strictly_below q p) as (λ b. strictly_below q p ≡ b → b ≡ false) [
      | true ↦ λ t. absurd (false≢true (sym none ∙ (flat.below p).1 (record { path = q; below = t; there = there })))
      | false ↦ λ t. refl
    ] refl

any_same : {A : Type 0} (p : Path) (es : List (Row A)) → All (λ x. same_path x.home p ≡ at_or_below x.home p) (values_of es)
    → list_any (λ q. same_path q p) (map (λ e. e.1) (home_rows es)) ≡ list_any (λ q. at_or_below q p) (map (λ e. e.1) (home_rows es))
any_same p [] h = refl
any_same p (e ∷ es) h =
    let P = λ (x : Process _). same_path x.home p ≡ at_or_below x.home p in
    (λ i. All-head P e.1 (values_of es) h i || any_same p es (All-tail P e.1 (values_of es) h) i)

neither : (a b : Bool) → (a || b) ≡ false → (a ≡ false) × (b ≡ false)
neither true b h = cc
neither false b h = (refl, h)

none_each : {A : Type 0} (p : Path) (es : List (Row A)) → list_any (λ q. same_path q p) (map (λ e. e.1) (home_rows es)) ≡ false → All (λ x. same_path x.home p ≡ false) (values_of es)
none_each p [] h = search rules
none_each p (e ∷ es) h =
    let two = neither (same_path e.1.home p) (list_any (λ q. same_path q p) (map (λ e. e.1) (home_rows es))) h in
    All-cons (λ (x : Process _). same_path x.home p ≡ false) e.1 (values_of es) two.0 (none_each p es two.1)

module _ {A : Type 0} (leaves : ℕ) (tree : Groups) (es : List (Row A)) (content : Content) (held : ℕ) (d : Recounted leaves tree es content held) (p : Path) where
  homes : fin.values (state_of tree es).home ≡ map (λ e. e.1) (home_rows es)
  homes = ap (map (λ e. e.1)) (fin.entries-from_sorted nat_cmp (home_rows es) (to_sorted es d.ordered))

  -- where no groups are below it, the processes of a group are those at or below it
  pub processes-are : CountsAsFlat tree → list_any (λ q. strictly_below q p) (fin.keys (map_values group_of tree)) ≡ false
      → list_any (λ q. same_path q p) (fin.values (state_of tree es).home) ≡ populated (state_of tree es) p
  processes-are flat none =
      ap (list_any (λ q. same_path q p)) homes
      ∙ any_same p es (All-weaker (λ x. IsPlaced leaves tree x) (λ x. same_path x.home p
      ≡ at_or_below x.home p) (λ x h. same_here x.home p (not_below tree flat p none x.home h.home)) (values_of es) d.placed)
      ∙ ap (list_any (λ q. at_or_below q p)) (sym homes)
      ∙ any-count (λ q. at_or_below q p) (fin.values (state_of tree es).home)

by_entries : (q : Path) (rows : List (Path × Attr)) → IsSome (find path_cmp q rows) → 1 ≤ length rows
by_entries q [] h = cc
by_entries q (e ∷ rows) h = omega arith

pub some_len : (m : Groups) (q : Path) → IsSome (fin.get m q) → 1 ≤ fin.len m
some_len m q h = omega (arith, by_entries q (fin.entries m) (subst IsSome (fin.get-entries m q) h), fin.len-entries m)

-- ---- a slot that goes back to the free ones
module _ (slots : ℕ) (tree : Groups) (free : List ℕ) (h : HasSlots slots tree free) (p : Path) (x : Attr) (pos : 0 < length p) (here : fin.get tree p ≡ Some x) where
  abbrev left : Groups
  left = fin.remove tree p

  goes : (q : Path) → ((q ≡ p) × (fin.get left q ≡ None)) ⊎ ((q ≡ p → ⊥) × (fin.get left q ≡ fin.get tree q))
  goes q = elim (same_path q p) as (λ b. same_path q p ≡ b → fin.get left q ≡ cond b None (fin.get tree q) → ((q ≡ p) × (fin.get left q ≡ None)) ⊎ ((q ≡ p → ⊥) × (fin.get left q ≡ fin.get tree q))) [
    | true ↦ λ t e. inl ((same_path_is q p).0 t, e)
    | false ↦ λ t e. inr ((λ same. false≢true (sym t ∙ (same_path_is q p).1 same)), e)
  ] refl (fin.get-remove path_cmp-IsTotalOrder tree p q)

  other : (q : Path) → IsSome (fin.get left q) → (q ≡ p → ⊥) × (fin.get left q ≡ fin.get tree q)
  other q i = elim (goes q) [ inl w ↦ (let none : IsSome {T = Attr} None = subst IsSome w.1 i in cc) | inr k ↦ k ]

  was : (q : Path) → IsSome (fin.get left q) → IsSome (fin.get tree q)
  was q i = subst IsSome ((other q i).1) i

  slot : (q : Path) (i : IsSome (fin.get left q)) → slot_at left q ≡ slot_at tree q
  slot q i = ap slot_of ((other q i).1)

  its_slot : slot_at tree p ≡ x.slot
  its_slot = ap slot_of here

  there : IsSome (fin.get tree p)
  there = subst IsSome (sym here) refl

  counts : (s : ℕ) → count_by (eqb s) (free ++ x.slot ∷ []) ≡ count_by (eqb s) free + cond (eqb s x.slot) 1 0
  counts s = omega (arith, sum_by-append (λ y. cond (eqb s y) 1 0) free (x.slot ∷ []))

  other_slot : (s : ℕ) → (s ≡ x.slot → ⊥) → count_by (eqb s) (free ++ x.slot ∷ []) ≡ count_by (eqb s) free
  other_slot s ne = let e : ◌≡◌ {A = ℕ} (cond (eqb s x.slot) 1 0) 0 = rw (ne_eqb s x.slot ne) refl in omega (arith, counts s, e)

  its_slot_free : count_by (eqb x.slot) (free ++ x.slot ∷ []) ≡ 1
  its_slot_free =
      let e : ◌≡◌ {A = ℕ} (cond (eqb x.slot x.slot) 1 0) 1 = rw (eq-eqb x.slot x.slot refl) refl in
      omega (arith, counts x.slot, e, h.unused p pos there, ap (λ s. count_by (eqb s) free) its_slot)

  smaller : fin.len left + 1 ≡ fin.len tree
  smaller = omega (arith, fin.len-remove path_cmp-IsTotalOrder tree p ∙ ap (λ (o : Option Attr). cond (is_some o) (fin.len tree - 1) (fin.len tree)) here, some_len tree p there)

  once : (s : ℕ) → count_by (eqb s) (free ++ x.slot ∷ []) ≤ 1
  once s = elim (eqb s x.slot) as (λ b. eqb s x.slot ≡ b → count_by (eqb s) (free ++ x.slot ∷ []) ≤ 1) [
    | true ↦ λ t. omega (arith, ap (λ r. count_by (eqb r) (free ++ x.slot ∷ [])) (eqb-true s x.slot t), its_slot_free)
    | false ↦ λ t. omega (arith, other_slot s (eqb-false s x.slot t), h.once s)
  ] refl

  pub freed : IsClosed left → HasSlots slots left (free ++ x.slot ∷ [])
  freed closed = record {
    few = h.few;
    closed = closed;
    shallow = λ q i. h.shallow q (was q i);
    below = λ q up i. omega (arith, h.below q up (was q i), slot q i);
    apart = λ q r a b i j e. h.apart q r a b (was q i) (was r j) (sym (slot q i) ∙ e ∙ slot r j);
    once = once;
    in_range = λ s le. omega (arith, h.in_range s le, other_slot s (λ e. omega (arith, le, e, its_slot, h.below p pos there)));
    unused = λ q up i.
        let apart : slot_at left q ≡ x.slot → ⊥ = λ e. (other q i).0 (h.apart q p up pos (was q i) there (sym (slot q i) ∙ e ∙ sym its_slot)) in
        omega (arith, other_slot (slot_at left q) apart, h.unused q up (was q i), ap (λ s. count_by (eqb s) free) (slot q i));
    whole = omega (arith, h.whole, smaller, length-append free (x.slot ∷ []));
  }

  -- there is room for it in the table
  pub room : IsClosed left → length free < slots
  room closed = omega (arith, h.whole, smaller, some_len left [] closed.root)

  -- no process stands in the group or below it, so that nobody's charges change
  pub nobody : {A : Type 0} (leaves : ℕ) (es : List (Row A)) (content : Content) (held : ℕ) → Recounted leaves tree es content held
      → CountsAsFlat tree → MayGo (state_of tree es) p → Recounted leaves left es content held
  nobody leaves es content held d flat may =
      regrouped leaves tree es content held d left (All-weaker (λ y. IsPlaced leaves tree y × (same_path y.home p ≡ false)) (λ y. (n : ℕ)
      → fin.get left (take n y.home) ≡ fin.get tree (take n y.home)) (λ y i n.
      elim (goes (take n y.home)) [
        | inl w ↦ absurd (false≢true (sym (sym (same_here y.home p (not_below tree flat p may.no_children y.home i.0.home)) ∙ i.1) ∙ ap (at_or_below y.home) (sym w.0) ∙ take_above n y.home))
        | inr k ↦ k.1
      ]) (values_of es) (all_both (λ y. IsPlaced leaves tree y) (λ y. same_path y.home p
      ≡ false) (values_of es) d.placed (none_each p es (sym (ap (list_any (λ q. same_path q p)) (homes leaves tree es content held d p))
      ∙ may.no_processes))))

-- ---- what the tree answers
pub not_refused : (old new : Groups) (p : Path) (f : TreeFault) → Removes old new p (Err f) → is_root p ≡ false → IsSome (fin.get old p) → (HasBelow old p → ⊥) → ⊥
not_refused old new p tree.RootFixed h root there none = false≢true (sym root ∙ ap is_root h.0)
not_refused old new p tree.NoGroup h root there none = let gone = subst IsSome h.1 there in cc
not_refused old new p tree.HasChildren h root there none = none h.2
not_refused old new p tree.Exists h root there none = h
not_refused old new p tree.NoParent h root there none = h
not_refused old new p tree.OutOfMemory h root there none = h

module _ {A : Type 0} (s : State) (tree : Groups) (es : List (Row A)) (v : state_of tree es ≡ s) (p : Path) where
  pub is_group_there : MayGo s p → IsSome (fin.get tree p)
  is_group_there may = is_there (fin.get tree p) (sym (ap not (group-is s tree es v p)) ∙ may.there)

  -- whether a group is there, and how many groups are below it
  pub group_here_by : IsSome (fin.get tree p) → is_group s p ≡ true
  group_here_by there = group-is s tree es v p ∙ there

  pub group-gone : None ≡ fin.get tree p → is_group s p ≡ false
  group-gone none = group-is s tree es v p ∙ ap is_some (sym none)

  pub below-is : CountsAsFlat tree → (n : ℕ) → n ≡ groups.descendant_count tree p → n ≡ descendant_count s p
  below-is flat n exact = exact ∙ sym (flat.counts (state_of tree es).home p) ∙ ap (λ (t : State). descendant_count t p) v

  pub has_below : CountsAsFlat tree → MayGo s p → HasBelow tree p → ⊥
  has_below flat may below = false≢true (sym (ap (λ (t : State). list_any (λ q. strictly_below q p) (fin.keys t.groups)) v ∙ may.no_children) ∙ (flat.below p).1 below)

pub not_root : (p : Path) → is_root p ≡ false → 0 < length p
not_root [] h = cc
not_root (n ∷ p) h = omega arith
