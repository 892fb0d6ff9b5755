-- The row of each group says which row its parent has, and how many groups are below it: what is read, and what a change
-- leaves.
use Rattle.std.proofs.Common.{◌≡◌, ◌≢◌, ℕ, ◌+◌, ◌<◌, ◌≤◌, inl, inr, Bool, true, false, cond, Option, Some, None, IsSome, List, [], ◌∷◌, length, get_or, refl, sym, ap, ◌∙◌, subst, arith}
use Rattle.std.proofs.lemmas.List.{get_or-set_other, length-map, map-set}
use Rattle.std.proofs.lemmas.Grind.{get_or-set_at}
use Rattle.std.proofs.Math.ListN.{get_or-map, set}
use Rattle.std.proofs.Math.Seq.{map-set_same}
use Rattle.std.specs.Ordering.{eq_by_cmp}
use Rattle.std.specs.FinMap as fin
use Rattle.flat_model.specs.Path.{Path, parent, path_cmp}
use Rattle.flat_model.proofs.PathLaws.{path_cmp-IsTotalOrder}
use Rattle.group_tree.specs.Groups.{Groups, IsClosed, descendant_count, only_root, slot_of}
use Rattle.group_tree.specs.declared.attr.Attr.{Attr}
use Rattle.pids_charge.specs.declared.group.Group.{Group}
use Rattle.pids_charge.specs.GroupRows.{HasCounts, HasParents, HasRows, HasTable, KeepsPaths, attrs_of, belows_of, in_row, ups_of, with_rows}
use Rattle.pids_charge.specs.Lists.{slot_at, row_at}
use Rattle.pids_charge.proofs.Changes.{by_some, changed_slots, which}
use Rattle.pids_charge.proofs.CountsUp.{counts_stay}
use Rattle.pids_charge.proofs.InRows.{closed_rows, in_tree, long_is, long_rows, put_is, put_rows, read_inside, row_is}
use Rattle.pids_charge.proofs.ParentSteps.{own_slot}
use Rattle.pids_charge.proofs.StartState.{alone}
use Rattle.pids_charge.proofs.RowsAt.{row_at_same}

-- ---- what rows say

abbrev pub attr_of : Group → Attr
attr_of r = r.attr

abbrev pub up_of : Group → ℕ
up_of r = r.up

abbrev pub below_of : Group → ℕ
below_of r = r.below

pub attr_read : (rows : List Group) (k n : ℕ) (r : Group) → r ≡ get_or rows k r → k ≡ n → r.attr ≡ get_or (attrs_of rows) n r.attr
attr_read rows k n r e at = ap attr_of (e ∙ ap (λ j. get_or rows j r) at) ∙ sym (get_or-map attr_of rows n r)

pub up_read : (rows : List Group) (k n : ℕ) (r : Group) → r ≡ get_or rows k r → k ≡ n → r.up ≡ get_or (ups_of rows) n r.up
up_read rows k n r e at = ap up_of (e ∙ ap (λ j. get_or rows j r) at) ∙ sym (get_or-map up_of rows n r)

pub below_read : (rows : List Group) (k n : ℕ) (r : Group) → r ≡ get_or rows k r → k ≡ n → r.below ≡ get_or (belows_of rows) n r.below
below_read rows k n r e at = ap below_of (e ∙ ap (λ j. get_or rows j r) at) ∙ sym (get_or-map below_of rows n r)

pub attrs_set : (rows : List Group) (k at : ℕ) (r : Group) → k ≡ at → attrs_of (set rows k r) ≡ set (attrs_of rows) at r.attr
attrs_set rows k at r from = map-set attr_of rows k r ∙ ap (λ (j : ℕ). set (attrs_of rows) j r.attr) from

pub ups_set : (rows : List Group) (k at : ℕ) (r : Group) → k ≡ at → ups_of (set rows k r) ≡ set (ups_of rows) at r.up
ups_set rows k at r from = map-set up_of rows k r ∙ ap (λ (j : ℕ). set (ups_of rows) j r.up) from

pub belows_set : (rows : List Group) (k at : ℕ) (r : Group) → k ≡ at → belows_of (set rows k r) ≡ set (belows_of rows) at r.below
belows_set rows k at r from = map-set below_of rows k r ∙ ap (λ (j : ℕ). set (belows_of rows) j r.below) from

-- a row with other attributes
abbrev pub with_attr : Group → Attr → Group
with_attr g y = record { attr = y; below = g.below; up = g.up }

pub ups_put : (rows : List Group) (k : ℕ) (y : Attr) (g : Group) → g ≡ get_or rows k g → ups_of (set rows k (with_attr g y)) ≡ ups_of rows
ups_put rows k y g read = map-set_same up_of rows k (with_attr g y) g (ap up_of read)

pub belows_put : (rows : List Group) (k : ℕ) (y : Attr) (g : Group) → g ≡ get_or rows k g → belows_of (set rows k (with_attr g y)) ≡ belows_of rows
belows_put rows k y g read = map-set_same below_of rows k (with_attr g y) g (ap below_of read)

-- more rows keep those that there were
module _ (rows long : List Group) (longer : length rows ≤ length long) (kept : (k : ℕ) (d : Group) → k < length rows → get_or long k d ≡ get_or rows k d) where
  pub attrs_longer : length (attrs_of rows) ≤ length (attrs_of long)
  attrs_longer = omega (arith, longer, length-map rows attr_of, length-map long attr_of)

  pub attrs_kept : (k : ℕ) (a : Attr) → k < length (attrs_of rows) → get_or (attrs_of long) k a ≡ get_or (attrs_of rows) k a
  attrs_kept k a l =
      let d : Group = record { attr = a; below = 0; up = 0 } in
      get_or-map attr_of long k d ∙ ap attr_of (kept k d (omega (arith, l, length-map rows attr_of))) ∙ sym (get_or-map attr_of rows k d)

  pub ups_kept : (tree : Groups) (h : HasRows tree (attrs_of rows)) (s : Groups) (v : with_rows tree (attrs_of rows) ≡ s)
      → (q : Path) → IsSome (fin.get s q) → get_or (ups_of long) (row_at s q) 0 ≡ get_or (ups_of rows) (row_at s q) 0
  ups_kept tree h s v q i =
      let its = row_is tree (attrs_of rows) h s v q (row_at s q) i refl in
      let d : Group = record { attr = its.attr; below = 0; up = 0 } in
      let inside = its.inside in
      get_or-map up_of long (row_at s q) d ∙ ap up_of (kept (row_at s q) d (omega (arith, inside, length-map rows attr_of))) ∙ sym (get_or-map up_of rows (row_at s q) d)

  pub belows_kept : (tree : Groups) (h : HasRows tree (attrs_of rows)) (s : Groups) (v : with_rows tree (attrs_of rows) ≡ s)
      → (q : Path) → IsSome (fin.get s q) → get_or (belows_of long) (row_at s q) 0 ≡ get_or (belows_of rows) (row_at s q) 0
  belows_kept tree h s v q i =
      let its = row_is tree (attrs_of rows) h s v q (row_at s q) i refl in
      let d : Group = record { attr = its.attr; below = 0; up = 0 } in
      let inside = its.inside in
      get_or-map below_of long (row_at s q) d ∙ ap below_of (kept (row_at s q) d (omega (arith, inside, length-map rows attr_of))) ∙ sym (get_or-map below_of rows (row_at s q) d)

-- ---- the root alone

pub root_parents : (root : Attr) → HasParents (only_root root) (0 ∷ [])
root_parents root = λ q i. ap (λ (r : Path). get_or (0 ∷ []) (row_at (only_root root) r) 0) (alone root q i) ∙ ap (λ (r : Path). row_at (only_root root) (parent r)) (sym (alone root q i))

-- ---- other groups, with the slots that they had

module _ (s new : Groups) (ups after : List ℕ) (h : HasParents s ups) (was : (q : Path) → IsSome (fin.get new q) → IsSome (fin.get s q))
    (slots : (q : Path) → IsSome (fin.get new q) → slot_at new q ≡ slot_at s q) (closed : IsClosed new)
    (reads : (q : Path) → IsSome (fin.get s q) → get_or after (row_at s q) 0 ≡ get_or ups (row_at s q) 0) where
  same_row : (q : Path) → IsSome (fin.get new q) → row_at new q ≡ row_at s q
  same_row q i = row_at_same new s q (slots q i)

  pub parents_stay : HasParents new after
  parents_stay = λ q i. ap (λ k. get_or after k 0) (same_row q i) ∙ reads q (was q i) ∙ h q (was q i) ∙ sym (same_row (parent q) (closed.parents q i))

module _ (s : Groups) (ups : List ℕ) (h : HasParents s ups) (p : Path) where
  -- a group is changed
  pub changed_parents : (x y : Attr) → fin.get s p ≡ Some y → x.slot ≡ y.slot → IsClosed (fin.insert s p x) → HasParents (fin.insert s p x) ups
  changed_parents x y here slot closed =
      let same = changed_slots s p x y here slot closed in
      parents_stay s (fin.insert s p x) ups ups h (λ q i. by_some (fin.get (fin.insert s p x) q) (fin.get s q) (sym (same.there q)) i) (λ q i. same.slots q) closed (λ q i. refl)

  -- a group is removed
  still : (q : Path) → IsSome (fin.get (fin.remove s p) q) → fin.get (fin.remove s p) q ≡ fin.get s q
  still q i = by (eq_by_cmp path_cmp q p) (fin.get-remove path_cmp-IsTotalOrder s p q)
    where
      by : (c : Bool) → fin.get (fin.remove s p) q ≡ cond c None (fin.get s q) → fin.get (fin.remove s p) q ≡ fin.get s q
      by true e = let gone : IsSome {T = Attr} None = subst IsSome e i in cc
      by false e = e

  pub left_parents : IsClosed (fin.remove s p) → HasParents (fin.remove s p) ups
  left_parents closed = parents_stay s (fin.remove s p) ups ups h (λ q i. subst IsSome (still q i) i) (λ q i. ap slot_of (still q i)) closed (λ q i. refl)

  -- a group is made
  module _ (x : Attr) (named : 0 < length p) (absent : fin.get s p ≡ None) (closed : IsClosed s) (there : IsSome (fin.get s (parent p)))
      (free : (q : Path) → 0 < length q → IsSome (fin.get s q) → slot_at s q ≢ x.slot)
      (long : List ℕ) (reads : (q : Path) → IsSome (fin.get s q) → get_or long (row_at s q) 0 ≡ get_or ups (row_at s q) 0) where
    stays : (q : Path) → IsSome (fin.get s q) → row_at (fin.insert s p x) q ≡ row_at s q
    stays q i = elim (which s p x q) [
      | inl w ↦ let gone : IsSome {T = Attr} None = subst IsSome (ap (fin.get s) w.0 ∙ absent) i in cc
      | inr w ↦ row_at_same (fin.insert s p x) s q (ap slot_of w.1)
    ]

    unused : (q : Path) → IsSome (fin.get s q) → row_at s q ≢ x.slot + 1
    unused [] i e = omega (arith, e)
    unused (n ∷ q) i e = free (n ∷ q) (omega arith) i (omega (arith, e))

    pub made_parents : (above : ℕ) → above ≡ row_at s (parent p) → x.slot + 1 < length long → HasParents (fin.insert s p x) (set long (x.slot + 1) above)
    made_parents above is inside = λ q i. elim (which s p x q) [
      | inl w ↦
          let at : row_at (fin.insert s p x) q ≡ x.slot + 1 = omega (arith, own_slot (fin.insert s p x) q (omega (arith, named, ap length w.0)), ap slot_of w.1) in
          get_or-set_at long (x.slot + 1) (row_at (fin.insert s p x) q) above 0 at inside ∙ is ∙ sym (stays (parent p) there)
          ∙ ap (λ (r : Path). row_at (fin.insert s p x) (parent r)) (sym w.0)
      | inr w ↦
          let old = subst IsSome w.1 i in
          ap (λ k. get_or (set long (x.slot + 1) above) k 0) (stays q old) ∙ get_or-set_other long (x.slot + 1) (row_at s q) above 0 (unused q old)
          ∙ reads q old ∙ h q old ∙ sym (stays (parent q) (closed.parents q old))
    ]

-- ---- in the rows of a table

module _ (tree : Groups) (rows : List Group) (r : HasRows tree (attrs_of rows)) (s : Groups) (v : with_rows tree (attrs_of rows) ≡ s)
    (h : HasParents (with_rows tree (attrs_of rows)) (ups_of rows)) where
  pub as_seen : HasParents s (ups_of rows)
  as_seen = subst (λ (m : Groups). HasParents m (ups_of rows)) v h

  -- a group has the row k
  module _ (p : Path) (at k : ℕ) (i : IsSome (fin.get s p)) (e : at ≡ row_at s p) (from : k ≡ at) where
    pub row_inside : k < length rows
    row_inside = let inside = (row_is tree (attrs_of rows) r s v p at i e).inside in omega (arith, from, inside, length-map rows attr_of)

    pub up_is : (g : Group) → g ≡ get_or rows k g → g.up ≡ row_at s (parent p)
    up_is g read =
        let inside = (row_is tree (attrs_of rows) r s v p at i e).inside in
        up_read rows k (row_at s p) g read (from ∙ e)
        ∙ read_inside (ups_of rows) (row_at s p) g.up 0 (omega (arith, e, inside, length-map rows attr_of, length-map rows up_of)) ∙ as_seen p i

  -- how many groups are below a group that has the row k
  module _ (counts : HasCounts (with_rows tree (attrs_of rows)) (belows_of rows)) where
    pub counts_seen : HasCounts s (belows_of rows)
    counts_seen = subst (λ (m : Groups). HasCounts m (belows_of rows)) v counts

    pub below_is : (p : Path) (at k : ℕ) (i : IsSome (fin.get s p)) (e : at ≡ row_at s p) (from : k ≡ at) (g : Group) → g ≡ get_or rows k g → g.below ≡ descendant_count s p
    below_is p at k i e from g read =
        let inside = (row_is tree (attrs_of rows) r s v p at i e).inside in
        below_read rows k (row_at s p) g read (from ∙ e)
        ∙ read_inside (belows_of rows) (row_at s p) g.below 0 (omega (arith, e, inside, length-map rows attr_of, length-map rows below_of)) ∙ counts_seen p i

  -- a group is changed, made or removed: what is seen then
  module _ (new : Groups) (attrs : List Attr) (seen : Groups) (is : with_rows new attrs ≡ seen) (closed : IsClosed new) where
    closed_seen : IsClosed seen
    closed_seen = subst (λ (m : Groups). IsClosed m) is (closed_rows new attrs closed)

    unseen : (ups : List ℕ) → HasParents seen ups → HasParents (with_rows new attrs) ups
    unseen ups k = subst (λ (m : Groups). HasParents m ups) (sym is) k

    pub seen_changed : (p : Path) (x y : Attr) → fin.get s p ≡ Some y → x.slot ≡ y.slot → seen ≡ fin.insert s p x → (ups : List ℕ) → ups ≡ ups_of rows → HasParents (with_rows new attrs) ups
    seen_changed p x y here slot then ups same =
        unseen ups (subst (λ (us : List ℕ). HasParents seen us) (sym same) (subst (λ (m : Groups). HasParents m (ups_of rows)) (sym then)
        (changed_parents s (ups_of rows) as_seen p x y here slot (subst (λ (m : Groups). IsClosed m) then closed_seen))))

    pub seen_left : (p : Path) → seen ≡ fin.remove s p → HasParents (with_rows new attrs) (ups_of rows)
    seen_left p then =
        unseen (ups_of rows) (subst (λ (m : Groups). HasParents m (ups_of rows)) (sym then) (left_parents s (ups_of rows) as_seen p (subst (λ (m : Groups). IsClosed m) then closed_seen)))

  closed_now : IsClosed s
  closed_now = subst (λ (m : Groups). IsClosed m) v (closed_rows tree (attrs_of rows) r.closed)

  -- more rows
  module _ (long : List Group) (longer : length rows ≤ length long) (kept : (k : ℕ) (d : Group) → k < length rows → get_or long k d ≡ get_or rows k d) where
    pub as_long : with_rows tree (attrs_of long) ≡ s
    as_long = long_is tree (attrs_of rows) r s v (attrs_of long) (attrs_longer rows long longer kept) (attrs_kept rows long longer kept)

    long_has : HasRows tree (attrs_of long)
    long_has = long_rows tree (attrs_of rows) r s v (attrs_of long) (attrs_longer rows long longer kept) (attrs_kept rows long longer kept)

    pub long_table : HasCounts (with_rows tree (attrs_of rows)) (belows_of rows) → (paths : List (Option Path)) → KeepsPaths tree paths → HasTable tree long paths
    long_table counts paths keeps = record {
      has_rows = long_has;
      has_parents = subst (λ (m : Groups). HasParents m (ups_of long)) (sym as_long)
          (parents_stay s s (ups_of rows) (ups_of long) as_seen (λ q i. i) (λ q i. refl) closed_now (ups_kept rows long longer kept tree r s v));
      has_counts = counts_stay tree (attrs_of rows) (attrs_of long) r long_has (belows_of rows) (belows_of long) counts (belows_kept rows long longer kept tree r (with_rows tree (attrs_of rows)) refl);
      keeps_paths = keeps;
    }

    pub seen_made : (p : Path) (x : Attr) → 0 < length p → fin.get s p ≡ None → IsSome (fin.get s (parent p)) → ((q : Path) → 0 < length q → IsSome (fin.get s q) → slot_at s q ≢ x.slot)
        → (above : ℕ) → above ≡ row_at s (parent p) → x.slot + 1 < length long → HasParents (fin.insert s p x) (set (ups_of long) (x.slot + 1) above)
    seen_made p x named absent there free above is inside =
        made_parents s (ups_of rows) as_seen p x named absent closed_now there free (ups_of long) (ups_kept rows long longer kept tree r s v) above is
        (omega (arith, inside, length-map long up_of))

  -- a row gets other attributes
  module _ (p : Path) (at k : ℕ) (i : IsSome (fin.get s p)) (e : at ≡ row_at s p) (from : k ≡ at) (y : Attr) (g : Group) (read : g ≡ get_or rows k g) where
    abbrev put_rows_now : List Group
    put_rows_now = set rows k (with_attr g y)

    attrs_put : attrs_of put_rows_now ≡ set (attrs_of rows) at y
    attrs_put = attrs_set rows k at (with_attr g y) from

    pub seen_put : with_rows tree (attrs_of put_rows_now) ≡ fin.insert s p y
    seen_put = ap (with_rows tree) attrs_put ∙ put_is tree (attrs_of rows) r s v at y p i e

    pub put_table : ((q : Path) (a : Attr) → fin.get s q ≡ Some a → at ≡ row_at s q → y.slot ≡ a.slot) → HasCounts (with_rows tree (attrs_of rows)) (belows_of rows)
        → (paths : List (Option Path)) → KeepsPaths tree paths → HasTable tree put_rows_now paths
    put_table same counts paths keeps =
        let its = row_is tree (attrs_of rows) r s v p at i e in
        let here : fin.get s p ≡ Some (in_row (attrs_of rows) its.attr) = ap (λ (m : Groups). fin.get m p) (sym v) ∙ in_tree tree (attrs_of rows) p its.attr its.there in
        let has = subst (HasRows tree) (sym attrs_put) (put_rows tree (attrs_of rows) r s v at y p i e same) in
        record {
          has_rows = has;
          has_parents = seen_changed tree (attrs_of put_rows_now) (fin.insert s p y) seen_put r.closed p y (in_row (attrs_of rows) its.attr) here
              (same p (in_row (attrs_of rows) its.attr) here e) refl (ups_of put_rows_now) (ups_put rows k y g read);
          has_counts = counts_stay tree (attrs_of rows) (attrs_of put_rows_now) r has (belows_of rows) (belows_of put_rows_now) counts
              (λ q _. ap (λ (bs : List ℕ). get_or bs (row_at (with_rows tree (attrs_of rows)) q) 0) (belows_put rows k y g read));
          keeps_paths = keeps;
        }
