-- What the rows say once a group is made or removed.
use Rattle.std.proofs.Common.{◌≡◌, ◌≢◌, ℕ, ◌+◌, ◌-◌, ◌^◌, ◌<◌, ◌≤◌, inl, inr, Bool, true, false, cond, Option, Some, None, IsSome, List, [], ◌∷◌, length, get_or, refl, sym, ap, ◌∙◌, subst, arith}
use Rattle.std.proofs.lemmas.List.{get_or-set_other, length-map, length-take-le}
use Rattle.std.proofs.lemmas.Grind.{get_or-set_at}
use Rattle.std.proofs.Math.ListN.{set}
use Rattle.std.specs.FinMap as fin
use Rattle.flat_model.specs.Path.{Path, parent, same_path}
use Rattle.flat_model.proofs.Maps.{get-own}
use Rattle.flat_model.proofs.PathLaws.{path_cmp-IsTotalOrder, path_cmp-IsAntisymmetric, same_path_is, same_path_itself}
use Rattle.group_tree.specs.Groups.{Groups, IsClosed, descendant_count, slot_of}
use Rattle.group_tree.specs.declared.attr.Attr.{Attr}
use Rattle.pids_charge.specs.declared.group.Group.{Group}
use Rattle.pids_charge.specs.declared.above.Change.TheVariants.{Raise, Lower}
use Rattle.pids_charge.specs.GroupRows.{ChangesCounts, HasCounts, HasParents, HasRows, HasTable, IsRowOf, KeepsPaths, attrs_of, stepped, belows_of, in_row, ups_of, with_rows}
use Rattle.pids_charge.specs.Lists.{slot_at, row_at}
use Rattle.pids_charge.proofs.Changes.{which}
use Rattle.pids_charge.proofs.CountsUp.{left_counts, made_counts}
use Rattle.pids_charge.proofs.InRows.{closed_rows, in_tree, left_is, left_rows, made_is, made_rows}
use Rattle.pids_charge.proofs.ParentRows.{attr_of, attrs_kept, attrs_longer, attrs_set, below_of, belows_kept, belows_set, counts_seen, seen_left, seen_made, ups_set}
use Rattle.pids_charge.proofs.ParentSteps.{own_slot}
use Rattle.pids_charge.proofs.RowsAt.{row_at_same}

pub has_a_name : (p : Path) → p ≢ [] → 0 < length p
has_a_name [] ne = absurd (ne refl)
has_a_name (n ∷ p) ne = omega arith

short_parent : (p : Path) → length p ≤ 32 → length (parent p) ≤ 32
short_parent p short = omega (arith, short, length-take-le (length p - 1) p (omega arith))

-- ---- the rows at the end

module _ (new : Groups) (before last : List Group) (attrs : attrs_of last ≡ attrs_of before) (ups : ups_of last ≡ ups_of before) where
  pub last_table : HasRows new (attrs_of before) → HasParents (with_rows new (attrs_of before)) (ups_of before) → HasCounts (with_rows new (attrs_of before)) (belows_of last)
      → (paths : List (Option Path)) → KeepsPaths new paths → HasTable new last paths
  last_table r h c paths keeps = record {
    has_rows = subst (HasRows new) (sym attrs) r;
    has_parents = subst (λ (list : List Attr). HasParents (with_rows new list) (ups_of last)) (sym attrs) (subst (HasParents (with_rows new (attrs_of before))) (sym ups) h);
    has_counts = subst (λ (list : List Attr). HasCounts (with_rows new list) (belows_of last)) (sym attrs) c;
    keeps_paths = keeps;
  }

module _ (tree : Groups) (rows : List Group) (r : HasRows tree (attrs_of rows)) (s : Groups) (v : with_rows tree (attrs_of rows) ≡ s)
    (h : HasParents (with_rows tree (attrs_of rows)) (ups_of rows)) where
  closed_seen : IsClosed s
  closed_seen = subst (λ (m : Groups). IsClosed m) v (closed_rows tree (attrs_of rows) r.closed)

  -- ---- a group is made

  module _ (long : List Group) (longer : length rows ≤ length long) (kept : (k : ℕ) (d : Group) → k < length rows → get_or long k d ≡ get_or rows k d)
      (p : Path) (x y : Attr) (named : 0 < length p) (number : x.slot ≡ y.slot + 1) (absent : fin.get s p ≡ None) (there : IsSome (fin.get s (parent p)))
      (free : (q : Path) → 0 < length q → IsSome (fin.get s q) → slot_at s q ≢ y.slot) (above : ℕ) (is : above ≡ row_at s (parent p))
      (new : Groups) (then : new ≡ fin.insert tree p x) (closed : IsClosed new) (k : ℕ) (from : k ≡ x.slot) (inside : x.slot < length long) where
    abbrev row : Group
    row = record { attr = y; below = 0; up = above }

    abbrev pub rows_now : List Group
    rows_now = set long k row

    listed : x.slot < length (attrs_of long)
    listed = omega (arith, inside, length-map long attr_of)

    now : attrs_of rows_now ≡ set (attrs_of long) x.slot y
    now = attrs_set long k x.slot row from

    pub seen_now : with_rows new (attrs_of rows_now) ≡ fin.insert s p y
    seen_now = ap (with_rows new) now
        ∙ made_is tree (attrs_of rows) r s v (attrs_of long) (attrs_longer rows long longer kept) (attrs_kept rows long longer kept) p x y named number listed free new then

    pub has_now : HasRows new (attrs_of rows_now)
    has_now = subst (HasRows new) (sym now)
        (made_rows tree (attrs_of rows) r s v (attrs_of long) (attrs_longer rows long longer kept) (attrs_kept rows long longer kept) p x y named number listed free new then closed)

    pub parents_now : HasParents (with_rows new (attrs_of rows_now)) (ups_of rows_now)
    parents_now = subst (λ (m : Groups). HasParents m (ups_of rows_now)) (sym seen_now)
        (subst (HasParents (fin.insert s p y)) (sym (ups_set long k (y.slot + 1) row (from ∙ number)))
        (seen_made tree rows r s v h long longer kept p y named absent there free above is (omega (arith, inside, number))))

    abbrev m : Groups
    m = with_rows new (attrs_of rows_now)

    own_there : fin.get m p ≡ Some y
    own_there = ap (λ (n : Groups). fin.get n p) seen_now ∙ get-own path_cmp-IsTotalOrder path_cmp-IsAntisymmetric s p y

    slot_stays : (q : Path) → IsSome (fin.get s q) → row_at m q ≡ row_at s q
    slot_stays q i = elim (which s p y q) [
      | inl w ↦ let gone : IsSome {T = Attr} None = subst IsSome (ap (fin.get s) w.0 ∙ absent) i in cc
      | inr w ↦ row_at_same m s q (ap slot_of (ap (λ (n : Groups). fin.get n q) seen_now ∙ w.1))
    ]

    unused : (q : Path) → IsSome (fin.get s q) → row_at s q ≢ y.slot + 1
    unused [] i e = omega (arith, e)
    unused (n ∷ q) i e = free (n ∷ q) (omega arith) i (omega (arith, e))

    belows_now : belows_of rows_now ≡ set (belows_of long) (y.slot + 1) 0
    belows_now = belows_set long k (y.slot + 1) row (from ∙ number)

    parent_there : IsSome (fin.get m (parent p))
    parent_there = (closed_rows new (attrs_of rows_now) closed).parents p (subst IsSome (sym own_there) refl)

    above_now : above ≡ row_at m (parent p)
    above_now = is ∙ sym (slot_stays (parent p) there)

    pub made_row : length p ≤ 32 → IsRowOf new rows_now (parent p) above
    made_row short = record { has_rows = has_now; has_parents = parents_now; there = parent_there; here = above_now; shallow = short_parent p short }

    pub made_seen : (last : List Group) → attrs_of last ≡ attrs_of rows_now → with_rows new (attrs_of last) ≡ fin.insert s p y
    made_seen last attrs = ap (with_rows new) attrs ∙ seen_now

    module _ (few : fin.len s < 2 ^ 16) (counts : HasCounts (with_rows tree (attrs_of rows)) (belows_of rows)) where
      others : (q : Path) → IsSome (fin.get s q) → get_or (belows_of rows_now) (row_at m q) 0 ≡ descendant_count s q
      others q i =
          ap (λ (bs : List ℕ). get_or bs (row_at m q) 0) belows_now ∙ ap (λ (n : ℕ). get_or (set (belows_of long) (y.slot + 1) 0) n 0) (slot_stays q i)
          ∙ get_or-set_other (belows_of long) (y.slot + 1) (row_at s q) 0 0 (unused q i) ∙ belows_kept rows long longer kept tree r s v q i ∙ counts_seen tree rows r s v h counts q i

      own : get_or (belows_of rows_now) (row_at m p) 0 ≡ 0
      own =
          let at : row_at m p ≡ y.slot + 1 = omega (arith, own_slot m p named, ap slot_of own_there) in
          ap (λ (bs : List ℕ). get_or bs (row_at m p) 0) belows_now
          ∙ get_or-set_at (belows_of long) (y.slot + 1) (row_at m p) 0 0 at (omega (arith, inside, number, length-map long below_of))

      pub made_table : (last : List Group) → attrs_of last ≡ attrs_of rows_now → ups_of last ≡ ups_of rows_now
          → ChangesCounts (stepped (2 ^ 32 - 1) Raise) (with_rows new (attrs_of rows_now)) (parent p) (belows_of rows_now) (belows_of last)
          → (paths : List (Option Path)) → KeepsPaths new paths → HasTable new last paths
      made_table last attrs ups changes paths keeps =
          last_table new rows_now last attrs ups has_now parents_now
          (made_counts s m p named (belows_of rows_now) (belows_of last) y few closed_seen absent seen_now others own changes) paths keeps

  -- ---- a group is removed

  module _ (p : Path) (named : 0 < length p) (a : Attr) (here : fin.get tree p ≡ Some a) (new : Groups) (then : new ≡ fin.remove tree p) (closed : IsClosed new) where
    abbrev left : Groups
    left = with_rows new (attrs_of rows)

    pub seen_gone : left ≡ fin.remove s p
    seen_gone = left_is tree (attrs_of rows) r s v p new then

    has_left : HasRows new (attrs_of rows)
    has_left = left_rows tree (attrs_of rows) r s v p new then closed

    parents_gone : HasParents left (ups_of rows)
    parents_gone = seen_left tree rows r s v h new (attrs_of rows) (fin.remove s p) seen_gone closed p refl

    removed : (q : Path) → fin.get left q ≡ cond (same_path q p) None (fin.get s q)
    removed q = ap (λ (n : Groups). fin.get n q) seen_gone ∙ fin.get-remove path_cmp-IsTotalOrder s p q

    gone : fin.get left p ≡ None
    gone = removed p ∙ ap (λ b. cond b None (fin.get s p)) (same_path_itself p)

    was : (q : Path) → IsSome (fin.get left q) → fin.get left q ≡ fin.get s q
    was q i = by (same_path q p) (removed q)
      where
        by : (b : Bool) → fin.get left q ≡ cond b None (fin.get s q) → fin.get left q ≡ fin.get s q
        by true e = let none : IsSome {T = Attr} None = subst IsSome e i in cc
        by false e = e

    same_slot : (q : Path) → IsSome (fin.get left q) → row_at left q ≡ row_at s q
    same_slot q i = row_at_same left s q (ap slot_of (was q i))

    own_before : fin.get s p ≡ Some (in_row (attrs_of rows) a)
    own_before = ap (λ (n : Groups). fin.get n p) (sym v) ∙ in_tree tree (attrs_of rows) p a here

    apart : same_path (parent p) p ≡ false
    apart = elim (same_path (parent p) p) as (λ b. same_path (parent p) p ≡ b → b ≡ false) [
      | true ↦ λ t. absurd (omega (arith, named, ap length ((same_path_is (parent p) p).0 t), length-take-le (length p - 1) p (omega arith)))
      | false ↦ λ t. refl
    ] refl

    above_there : IsSome (fin.get left (parent p))
    above_there = subst IsSome (sym (removed (parent p) ∙ ap (λ b. cond b None (fin.get s (parent p))) apart)) (closed_seen.parents p (subst IsSome (sym own_before) refl))

    module _ (up : ℕ) (is : up ≡ row_at s (parent p)) where
      up_now : up ≡ row_at left (parent p)
      up_now = is ∙ sym (same_slot (parent p) above_there)

      pub left_row : length p ≤ 32 → IsRowOf new rows (parent p) up
      left_row short = record { has_rows = has_left; has_parents = parents_gone; there = above_there; here = up_now; shallow = short_parent p short }

      pub left_table : HasCounts (with_rows tree (attrs_of rows)) (belows_of rows) → (last : List Group) → attrs_of last ≡ attrs_of rows → ups_of last ≡ ups_of rows
          → ChangesCounts (stepped (2 ^ 32 - 1) Lower) (with_rows new (attrs_of rows)) (parent p) (belows_of rows) (belows_of last)
          → (paths : List (Option Path)) → KeepsPaths new paths → HasTable new last paths
      left_table counts last attrs ups changes paths keeps =
          last_table new rows last attrs ups has_left parents_gone
          (left_counts s left p named (belows_of rows) (belows_of last) (in_row (attrs_of rows) a) own_before seen_gone gone
          (λ q i. ap (λ (k : ℕ). get_or (belows_of rows) k 0) (same_slot q i) ∙ counts_seen tree rows r s v h counts q (subst IsSome (was q i) i)) changes)
          paths keeps
