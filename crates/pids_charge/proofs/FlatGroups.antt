-- What the tree says of the flat state's groups, and what refuses a kill.
use Rattle.std.proofs.Common.{◌≡◌, ◌&&◌, ℕ, ◌-◌, ◌<◌, ◌≤◌, ltb, Bool, true, false, not, cond, Option, Some, None, Result, Ok, Err}
use Rattle.std.proofs.Common.{List, [], ◌∷◌, length, take, IsSome, is_some, option_copied, Bor, refl, sym, ap, ◌∙◌, subst, arith}
use Rattle.std.specs.Option.{option_map, option_or}
use Rattle.std.specs.FinMap as fin
use Rattle.std.proofs.Math.Seq.{take-length}
use Rattle.flat_model.specs.Path.{Path, path_cmp, is_root, parent, upward}
use Rattle.flat_model.specs.State.{State, fresh}
use Rattle.flat_model.specs.Refuse.{refuse}
use Rattle.flat_model.specs.Mapped.{map_values}
use Rattle.std.specs.Result.{is_err}
use Rattle.std.specs.Ordering.{eq_by_cmp}
use Rattle.flat_model.proofs.PathLaws.{path_cmp-IsTotalOrder, path_cmp-IsAntisymmetric}
use Rattle.group_tree.specs.declared.fault.TreeFault.{TreeFault}
use Rattle.flat_model.specs.Counts.{is_group, has_process}
use Rattle.flat_model.specs.Inverse.{back, Exited}
use Rattle.flat_model.specs.Command.{Kill, Move, MakeGroup, Refusal, NoGroup, NoProcess, NoFile, Exists, NoSlot}
use Rattle.std.proofs.lemmas.Bool.Decides.{nat_tests}
use Rattle.flat_model.specs.Step.{refusal, after, blocked_make, limit_met, first_refusal}
use Rattle.std.specs.Ordering.{nat_cmp}
use Rattle.std.specs.List.Sorted.{IsStrictlySortedBy}
use Rattle.std.specs.Map.{keys_of, lookup}
use Rattle.std.specs.BTreeMap.{is_at, insert_entry}
use Rattle.process_table.specs.declared.process.Process.{Process}
use Rattle.pids_charge.proofs.Entries.{home_rows, to_sorted, find_home, put_home}
use Rattle.group_tree.specs.Groups.{Groups, Inserts}
use Rattle.group_tree.specs.Flat.{group_of}
use Rattle.flat_model.proofs.MapValues.{get-map_values, len-map_values}
use Rattle.group_tree.specs.declared.attr.Attr.{Attr}
use Rattle.pids_charge.specs.Events.{flat_of}
use Rattle.pids_charge.specs.Answers.{refusal_along}
use Rattle.pids_charge.specs.HierarchyLimits.{IsFirstMet}
use Rattle.pids_charge.specs.Lists.{Row}
use Rattle.pids_charge.specs.Recount.{state_of}
use Rattle.pids_charge.specs.declared.fault.ChargeRefusal.{ChargeRefusal}

lt-ltb : {m n : ℕ} → m < n → ltb m n ≡ true
lt-ltb h = grind (arith, nat_tests)

le-ltb : {m n : ℕ} → n ≤ m → ltb m n ≡ false
le-ltb h = grind (arith, nat_tests)

over : (b : Bool) (x : Attr) (o : Option Attr) → option_map group_of (cond b (Some x) o) ≡ cond b (Some (group_of x)) (option_map group_of o)
over true x o = refl
over false x o = refl

mapped : {X Y : Type 0} (f : X → Y) (o : Option X) → is_some (option_map f o) ≡ is_some o
mapped f None = refl
mapped f (Some x) = refl

unmapped : {X Y : Type 0} (f : X → Y) (o : Option X) → IsSome (option_map f o) → IsSome o
unmapped f None h = h
unmapped f (Some x) h = refl

mapped_there : (o : Option Attr) → IsSome o → IsSome (option_map group_of o)
mapped_there None h = cc
mapped_there (Some a) h = refl

copied : {X : Type 0} (o : Option (Bor X)) → is_some (option_copied o) ≡ is_some o
copied None = refl
copied (Some x) = refl

unfound : {A : Type 0} (o : Option (Process A)) → option_map (λ p. p.home) o ≡ None → o ≡ None
unfound None e = refl
unfound (Some p) e = cc

module _ {A : Type 0} (s : State) (tree : Groups) (es : List (Row A)) (v : state_of tree es ≡ s) where
  pub group-is : (p : Path) → is_group s p ≡ is_some (fin.get tree p)
  group-is p = ap (λ (t : State). is_some (fin.get t.groups p)) (sym v) ∙ ap is_some (get-map_values group_of tree p) ∙ mapped group_of (fin.get tree p)

  pub group-found : (p : Path) (o : Option (Bor Attr)) (b : Bool) → option_copied o ≡ fin.get tree p → is_some o ≡ not b → is_group s p ≡ not b
  group-found p o b e h = group-is p ∙ ap is_some (sym e) ∙ copied o ∙ h

  pub group-by : (p : Path) (o : Option (Bor Attr)) (b : Bool) → option_copied o ≡ fin.get tree p → is_some o ≡ b → is_group s p ≡ b
  group-by p o b e h = group-is p ∙ ap is_some (sym e) ∙ copied o ∙ h

  pub there-is : (p : Path) → IsSome (fin.get s.groups p) → IsSome (fin.get tree p)
  there-is p h = unmapped group_of (fin.get tree p) (subst IsSome (ap (λ (t : State). fin.get t.groups p) (sym v) ∙ get-map_values group_of tree p) h)

  pub group-get : (p : Path) → option_map group_of (fin.get tree p) ≡ fin.get s.groups p
  group-get p = sym (get-map_values group_of tree p) ∙ ap (λ (t : State). fin.get t.groups p) v

  pub group-there : (p : Path) → IsSome (fin.get tree p) → IsSome (fin.get (map_values group_of tree) p)
  group-there p i = subst IsSome (sym (get-map_values group_of tree p)) (mapped_there (fin.get tree p) i)

  -- a group of the tree in the flat state
  pub group-at : (p : Path) (a : Attr) → fin.get tree p ≡ Some a → fin.get s.groups p ≡ Some (group_of a)
  group-at p a e = sym (group-get p) ∙ ap (option_map group_of) e

  pub home-is : IsStrictlySortedBy nat_cmp (keys_of es) → (k : ℕ) → fin.get s.home k ≡ option_map (λ p. p.home) (lookup (is_at (nat_cmp k)) es)
  home-is sorted k = ap (λ (t : State). fin.get t.home k) (sym v) ∙ fin.get-from_sorted nat_cmp (home_rows es) k (to_sorted es sorted) ∙ find_home k es

  pub no_home : IsStrictlySortedBy nat_cmp (keys_of es) → (k : ℕ) → fin.get s.home k ≡ None → lookup (is_at (nat_cmp k)) es ≡ None
  no_home sorted k e = unfound (lookup (is_at (nat_cmp k)) es) (sym (home-is sorted k) ∙ e)

  pub process-is : IsStrictlySortedBy nat_cmp (keys_of es) → (k : ℕ) → has_process s k ≡ is_some (lookup (is_at (nat_cmp k)) es)
  process-is sorted k = ap is_some (home-is sorted k) ∙ mapped (λ p. p.home) (lookup (is_at (nat_cmp k)) es)

  pub moved-is : IsStrictlySortedBy nat_cmp (keys_of es) → (k : ℕ) (x : Process A) (fs : List (Row A)) (q : Path)
      → fs ≡ insert_entry nat_cmp es k x → x.home ≡ q → state_of tree fs ≡ back (Exited k q) s
  moved-is sorted k x fs q e same =
      ap (state_of tree) e
      ∙ (λ i. record { groups = (state_of tree es).groups; home = put_home k x es (to_sorted es sorted) i })
      ∙ ap (λ r. back (Exited k r) (state_of tree es)) same
      ∙ ap (λ (t : State). back (Exited k q) t) v

pub found_there : (o : Option (Bor Attr)) (m : Option Attr) (b : Bool) → option_copied o ≡ m → is_some o ≡ not b → b ≡ false → IsSome m
found_there None m true e h f = cc
found_there None m false e h f = cc
found_there (Some x) m b e h f = subst IsSome e refl

module _ {A : Type 0} (tree : Groups) (es : List (Row A)) where
  -- no limit of the hierarchy looks at a process
  same_walk : (q : Path) (way : List Path) → first_refusal (limit_met (flat_of tree fin.empty) q) way ≡ first_refusal (limit_met (state_of tree es) q) way
  same_walk q [] = refl
  same_walk q (a ∷ way) = ap (option_or (limit_met (state_of tree es) q a)) (same_walk q way)

  -- the first limit that a new group meets, in the flat state
  pub blocked-is : (s : State) → state_of tree es ≡ s → (p : Path) (met : Option ChargeRefusal) → IsFirstMet tree p met → blocked_make s p ≡ option_map (refusal_along p) met
  blocked-is s v p met h = ap (λ (t : State). blocked_make t p) (sym v) ∙ sym (h.first ∙ same_walk (parent p) (upward (parent p)))

  pub len-is : (s : State) → state_of tree es ≡ s → fin.len s.groups ≡ fin.len tree
  len-is s v = ap (λ (t : State). fin.len t.groups) (sym v) ∙ len-map_values group_of tree

module _ (slots : ℕ) (s : State) (p : Path) where
  pub make_exists : is_group s p ≡ true → refusal slots s (MakeGroup p) ≡ Some Exists
  make_exists h = rw h refl

  pub make_no_parent : (n : ℕ) → n ≡ length p - 1 → is_group s p ≡ false → is_group s (take n p) ≡ false → refusal slots s (MakeGroup p) ≡ Some (NoGroup (take n p))
  make_no_parent n e h i =
      let j : is_group s (parent p) ≡ false = ap (λ k. is_group s (take k p)) (sym e) ∙ i in
      rw (h, j) (ap (λ k. Some (NoGroup (take k p))) (sym e))

  up : (n : ℕ) → n ≡ length p - 1 → is_group s (take n p) ≡ true → is_group s (parent p) ≡ true
  up n e i = ap (λ k. is_group s (take k p)) (sym e) ∙ i

  pub make_blocked : (n : ℕ) (r : Refusal) → n ≡ length p - 1 → is_group s p ≡ false → is_group s (take n p) ≡ true → blocked_make s p ≡ Some r → refusal slots s (MakeGroup p) ≡ Some r
  make_blocked n r e h i b = rw (h, up n e i, b) refl

  pub make_full : (n : ℕ) → n ≡ length p - 1 → is_group s p ≡ false → is_group s (take n p) ≡ true → blocked_make s p ≡ None → slots < fin.len s.groups → refusal slots s (MakeGroup p) ≡ Some NoSlot
  make_full n e h i b full = rw (h, up n e i, b, lt-ltb full) refl

  pub make_allowed : (n : ℕ) → n ≡ length p - 1 → is_group s p ≡ false → is_group s (take n p) ≡ true → blocked_make s p ≡ None → fin.len s.groups ≤ slots → refusal slots s (MakeGroup p) ≡ None
  make_allowed n e h i b room = rw (h, up n e i, b, le-ltb room) refl

pub refuse_none : (b : Bool) (r : Refusal) (o : Option Refusal) → refuse b r o ≡ None → (b ≡ false) × (o ≡ None)
refuse_none true r o e = cc
refuse_none false r o e = (refl, e)

or_none : (x y : Option Refusal) → option_or x y ≡ None → (x ≡ None) × (y ≡ None)
or_none None y e = (refl, e)
or_none (Some r) y e = cc

le-from : {m n : ℕ} → ltb m n ≡ false → n ≤ m
le-from h = grind (arith, nat_tests)

pub is_none : {X : Type 0} (o : Option X) → is_some o ≡ false → o ≡ None
is_none None e = refl
is_none (Some x) e = cc

pub is_there : {X : Type 0} (o : Option X) → not (is_some o) ≡ false → IsSome o
is_there None e = cc
is_there (Some x) e = refl

-- what the acceptance of a new group says
pub make_open : (slots : ℕ) (s : State) (p : Path) → refusal slots s (MakeGroup p) ≡ None → (fin.get s.groups p ≡ None) × IsSome (fin.get s.groups (parent p)) × (fin.len s.groups ≤ slots)
make_open slots s p h =
    let full = refuse (ltb slots (fin.len s.groups)) NoSlot None in
    let later = refuse (not (is_group s (parent p))) (NoGroup (parent p)) (option_or (blocked_make s p) full) in
    let a = refuse_none (is_group s p) Exists later h in
    let b = refuse_none (not (is_group s (parent p))) (NoGroup (parent p)) (option_or (blocked_make s p) full) a.1 in
    let c = or_none (blocked_make s p) full b.1 in
    let d = refuse_none (ltb slots (fin.len s.groups)) NoSlot None c.1 in
    (is_none (fin.get s.groups p) a.0, is_there (fin.get s.groups (parent p)) b.0, le-from d.0)

-- an insert that was not refused
pub inserted : (old new : Groups) (p : Path) (x : Attr) (r : Result (Unit {0}) TreeFault) → Inserts old new p x r → is_err r ≡ false → (fin.get old p ≡ None) × (new ≡ fin.insert old p x)
inserted old new p x (Ok u) h e = (h.0, h.2)
inserted old new p x (Err f) h e = cc

module _ {A : Type 0} (s : State) (tree : Groups) (es : List (Row A)) (v : state_of tree es ≡ s) where
  pub made-is : (new : Groups) (p : Path) (x : Attr) → new ≡ fin.insert tree p x → group_of x ≡ fresh → state_of new es ≡ after s (MakeGroup p)
  made-is new p x e f =
      let groups : map_values group_of new ≡ fin.insert (map_values group_of tree) p fresh = fin.same_map path_cmp-IsTotalOrder path_cmp-IsAntisymmetric _ _ (λ q.
      get-map_values group_of new q ∙ ap (λ m. option_map group_of (fin.get m q)) e ∙ ap (option_map group_of) (fin.get-insert path_cmp-IsTotalOrder tree p x q)
      ∙ over (eq_by_cmp path_cmp q p) x (fin.get tree q) ∙ ap (λ y. cond (eq_by_cmp path_cmp q p) (Some y) (option_map group_of (fin.get tree q))) f
      ∙ ap (cond (eq_by_cmp path_cmp q p) (Some fresh)) (sym (get-map_values group_of tree q)) ∙ sym (fin.get-insert path_cmp-IsTotalOrder (map_values group_of tree) p fresh q)) in
      (λ i. record { groups = groups i; home = (state_of tree es).home }) ∙ ap (λ (t : State). after t (MakeGroup p)) v

pub nonroot : (p : Path) → 0 < length p → is_root p ≡ false
nonroot [] h = absurd (omega arith)
nonroot (n ∷ p) h = refl

module _ (slots : ℕ) (s : State) (p : Path) where
  pub kill_no_group : (n : ℕ) → 0 < length p → is_group s p ≡ false → n ≡ length p → refusal slots s (Kill p) ≡ Some (NoGroup (take n p))
  kill_no_group n h i e = rw (nonroot p h, i, e, take-length p) refl

  pub kill_allowed : 0 < length p → is_group s p ≡ true → refusal slots s (Kill p) ≡ None
  kill_allowed h i = rw (nonroot p h, i) refl

  pub killed_group : refusal slots s (Kill p) ≡ None → is_group s p ≡ true
  killed_group e = by (is_root p) (is_group s p) e
    where
      by : (a b : Bool) → refuse a NoFile (refuse (not b) (NoGroup p) None) ≡ None → b ≡ true
      by true b e = cc
      by false true e = refl
      by false false e = cc

  pub move_no_group : (pid n : ℕ) → is_group s p ≡ false → n ≡ length p → refusal slots s (Move p pid) ≡ Some (NoGroup (take n p))
  move_no_group pid n i e = rw (i, e, take-length p) refl

  pub move_no_process : (pid : ℕ) → is_group s p ≡ true → has_process s pid ≡ false → refusal slots s (Move p pid) ≡ Some (NoProcess pid)
  move_no_process pid i h = rw (i, h) refl

  pub move_allowed : (pid : ℕ) → is_group s p ≡ true → has_process s pid ≡ true → refusal slots s (Move p pid) ≡ None
  move_allowed pid i h = rw (i, h) refl

pub asked : (s : State) (p : Path) (b : Bool) → 0 < length p → is_group s p ≡ b → b ≡ (not (is_root p) && is_group s p)
asked s p b h e = sym (ap (λ r. not r && is_group s p) (nonroot p h) ∙ e)
