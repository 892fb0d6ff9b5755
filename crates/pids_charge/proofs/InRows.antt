-- Groups whose attributes are in rows: what is read, and what a change of one group leaves.
use Rattle.std.proofs.Common.{◌≡◌, ◌≢◌, ℕ, zero, suc, ◌+◌, ◌<◌, ◌≤◌, ◌⊎◌, inl, inr, Bool, true, false, cond, Option, Some, None, IsSome, Result, Ok, Err, OnErr, OnOk, is_err, List, [], ◌∷◌, length, get_or, option_map, refl, sym, ap, ◌∙◌, subst, arith}
use Rattle.std.proofs.lemmas.Bool.{false≢true}
use Rattle.std.proofs.lemmas.List.{length-set, get_or-set_other}
use Rattle.std.proofs.lemmas.Grind.{get_or-set_at}
use Rattle.std.proofs.Math.ListN.{set}
use Rattle.std.specs.Ordering.{eq_by_cmp}
use Rattle.std.specs.FinMap as fin
use Rattle.flat_model.specs.Path.{Path, path_cmp, same_path}
use Rattle.flat_model.proofs.Maps.{get-own}
use Rattle.flat_model.proofs.MapValues.{get-map_values, map_values-remove}
use Rattle.flat_model.proofs.PathLaws.{path_cmp-IsTotalOrder, path_cmp-IsAntisymmetric, same_path_is}
use Rattle.group_tree.specs.Groups.{Groups, IsClosed, slot_of}
use Rattle.group_tree.specs.declared.attr.Attr.{Attr}
use Rattle.pids_charge.specs.GroupRows.{in_row, with_rows, IsInRow, HasRows}
use Rattle.pids_charge.specs.Lists.{slot_at, row_at}
use Rattle.pids_charge.proofs.Changes.{which}
use Rattle.pids_charge.proofs.EachChanged.{closed_changes}
use Rattle.pids_charge.proofs.RowsAt.{row_at_same}

-- inside a list it doesn't matter what is read outside
pub read_inside : {X : Type 0} (xs : List X) (k : ℕ) (d e : X) → k < length xs → get_or xs k d ≡ get_or xs k e
read_inside [] k d e h = absurd (omega (arith, h))
read_inside (x ∷ xs) zero d e h = refl
read_inside (x ∷ xs) (suc k) d e h = read_inside xs k d e (omega (arith, h))

-- which of the two a map has
pub known_or_not : {X : Type 0} (o : Option X) → (o ≡ None) ⊎ ((x : X) × (o ≡ Some x))
known_or_not None = inl refl
known_or_not (Some x) = inr (x, refl)

pub same_attr : (o : Option Attr) (a b : Attr) → o ≡ Some a → o ≡ Some b → a ≡ b
same_attr o a b e f = let same : ◌≡◌ {A = Option Attr} (Some a) (Some b) = sym e ∙ f in cc

module _ (tree : Groups) (rows : List Attr) where
  pub get-rows : (p : Path) → fin.get (with_rows tree rows) p ≡ option_map (in_row rows) (fin.get tree p)
  get-rows p = get-map_values (in_row rows) tree p

  pub in_tree : (p : Path) (a : Attr) → fin.get tree p ≡ Some a → fin.get (with_rows tree rows) p ≡ Some (in_row rows a)
  in_tree p a e = get-rows p ∙ ap (option_map (in_row rows)) e

  pub not_in_tree : (p : Path) → fin.get tree p ≡ None → fin.get (with_rows tree rows) p ≡ None
  not_in_tree p e = get-rows p ∙ ap (option_map (in_row rows)) e

  pub closed_rows : IsClosed tree → IsClosed (with_rows tree rows)
  closed_rows closed = closed_changes (λ q. in_row rows) tree (with_rows tree rows) get-rows closed

  -- a group, as the tree has it
  pub record IsInTree (p : Path) : Type 0 where
    pub attr : Attr
    pub there : fin.get tree p ≡ Some attr

  pub tree_has : (p : Path) → IsSome (fin.get (with_rows tree rows) p) → IsInTree p
  tree_has p i = elim (known_or_not (fin.get tree p)) [
    | inl none ↦ let gone : IsSome {T = Attr} None = subst IsSome (not_in_tree p none) i in cc
    | inr found ↦ record { attr = found.0; there = found.1 }
  ]

  pub there_too : (p : Path) (a : Attr) → fin.get tree p ≡ Some a → IsSome (fin.get (with_rows tree rows) p)
  there_too p a e = subst IsSome (sym (in_tree p a e)) refl

-- ---- one group is changed or made

-- the tree after a change at p, where it has x then; its row has y then
module _ (tree new : Groups) (rows after : List Attr) (p : Path) (x y : Attr)
    (split : (q : Path) → ((q ≡ p) × (fin.get new q ≡ Some x)) ⊎ ((q ≡ p → ⊥) × (fin.get new q ≡ fin.get tree q)))
    (own : in_row after x ≡ y)
    (others : (q : Path) (b : Attr) → (q ≡ p → ⊥) → fin.get tree q ≡ Some b → in_row after b ≡ in_row rows b) where
  stays : (q : Path) → (q ≡ p → ⊥) → fin.get new q ≡ fin.get tree q → fin.get (with_rows new after) q ≡ fin.get (with_rows tree rows) q
  stays q apart e = elim (known_or_not (fin.get tree q)) [
    | inl none ↦ not_in_tree new after q (e ∙ none) ∙ sym (not_in_tree tree rows q none)
    | inr found ↦ in_tree new after q found.0 (e ∙ found.1) ∙ ap Some (others q found.0 apart found.1) ∙ sym (in_tree tree rows q found.0 found.1)
  ]

  at : (q : Path) → fin.get (with_rows new after) q ≡ fin.get (fin.insert (with_rows tree rows) p y) q
  at q = elim (split q) [
    | inl w ↦ elim (which (with_rows tree rows) p y q) [
      | inl v ↦ in_tree new after q x w.1 ∙ ap Some own ∙ sym v.1
      | inr v ↦ absurd (v.0 w.0)
    ]
    | inr w ↦ elim (which (with_rows tree rows) p y q) [
      | inl v ↦ absurd (w.0 v.0)
      | inr v ↦ stays q w.0 w.1 ∙ sym v.1
    ]
  ]

  pub written : with_rows new after ≡ fin.insert (with_rows tree rows) p y
  written = fin.same_map path_cmp-IsTotalOrder path_cmp-IsAntisymmetric _ _ at

  -- the row's number was that of no other group
  pub has_rows : HasRows tree rows → IsClosed new → x.slot < length after → length rows ≤ length after → x.slot ≡ row_at (with_rows new after) p
      → ((q : Path) (b : Attr) → (q ≡ p → ⊥) → fin.get tree q ≡ Some b → b.slot ≢ x.slot)
      → HasRows new after
  has_rows h closed inside longer number alone = record {
    closed = closed;
    each = λ q b e. elim (split q) [
      | inl w ↦
          let same : x ≡ b = same_attr (fin.get new q) x b w.1 e in
          subst (λ (c : Attr). IsInRow new after q c) same (record {
            inside = inside;
            number = number ∙ ap (row_at (with_rows new after)) (sym w.0);
          })
      | inr w ↦
          let old = h.each q b (sym w.1 ∙ e) in
          record {
            inside = omega (arith, old.inside, longer);
            number = old.number ∙ sym (row_at_same (with_rows new after) (with_rows tree rows) q (ap slot_of (stays q w.0 w.1)));
          }
    ];
    apart = λ q r b c e f same. elim (split q) [
      | inl w ↦ elim (split r) [
        | inl v ↦ w.0 ∙ sym v.0
        | inr v ↦ absurd (alone r c v.0 (sym v.1 ∙ f) (sym same ∙ ap (λ (d : Attr). d.slot) (sym (same_attr (fin.get new q) x b w.1 e))))
      ]
      | inr w ↦ elim (split r) [
        | inl v ↦ absurd (alone q b w.0 (sym w.1 ∙ e) (same ∙ ap (λ (d : Attr). d.slot) (sym (same_attr (fin.get new r) x c v.1 f))))
        | inr v ↦ h.apart q r b c (sym w.1 ∙ e) (sym v.1 ∙ f) same
      ]
    ];
  }

-- nothing changes in the tree
pub same_split : (tree : Groups) (p : Path) (a : Attr) → fin.get tree p ≡ Some a → (q : Path) → ((q ≡ p) × (fin.get tree q ≡ Some a)) ⊎ ((q ≡ p → ⊥) × (fin.get tree q ≡ fin.get tree q))
same_split tree p a e q = elim (same_path q p) as (λ b. same_path q p ≡ b → ((q ≡ p) × (fin.get tree q ≡ Some a)) ⊎ ((q ≡ p → ⊥) × (fin.get tree q ≡ fin.get tree q))) [
  | true ↦ λ t. let same = (same_path_is q p).0 t in inl (same, ap (fin.get tree) same ∙ e)
  | false ↦ λ t. inr ((λ same. false≢true (sym t ∙ (same_path_is q p).1 same)), refl)
] refl

-- ---- what is read

module _ (tree : Groups) (rows : List Attr) (h : HasRows tree rows) (s : Groups) (v : with_rows tree rows ≡ s) where
  pub found_is : (p : Path) (a now : Attr) → fin.get tree p ≡ Some a → now ≡ get_or rows a.slot now → Some now ≡ fin.get s p
  found_is p a now e is =
      ap Some (is ∙ read_inside rows a.slot now a (h.each p a e).inside) ∙ sym (in_tree tree rows p a e) ∙ ap (λ (m : Groups). fin.get m p) v

  pub absent_is : (p : Path) → fin.get tree p ≡ None → fin.get s p ≡ None
  absent_is p e = ap (λ (m : Groups). fin.get m p) (sym v) ∙ not_in_tree tree rows p e

  pub number_is : (p : Path) (a : Attr) → fin.get tree p ≡ Some a → IsSome (fin.get s p) × (a.slot ≡ row_at s p)
  number_is p a e = (subst (λ (m : Groups). IsSome (fin.get m p)) v (there_too tree rows p a e), (h.each p a e).number ∙ ap (λ (m : Groups). row_at m p) v)

  -- the row of a group
  pub record HasRow (p : Path) (at : ℕ) : Type 0 where
    pub attr : Attr
    pub there : fin.get tree p ≡ Some attr
    pub slot : attr.slot ≡ at
    pub inside : at < length rows

  pub row_is : (p : Path) (at : ℕ) → IsSome (fin.get s p) → at ≡ row_at s p → HasRow p at
  row_is p at i e =
      let t = tree_has tree rows p (subst (λ (m : Groups). IsSome (fin.get m p)) (sym v) i) in
      let slot : t.attr.slot ≡ at = (number_is p t.attr t.there).1 ∙ sym e in
      record { attr = t.attr; there = t.there; slot = slot; inside = let inside = (h.each p t.attr t.there).inside in omega (arith, slot, inside) }

  -- no two groups have the same row
  pub rows_apart : (p q : Path) → IsSome (fin.get s p) → IsSome (fin.get s q) → row_at s p ≡ row_at s q → p ≡ q
  rows_apart p q i j e =
      let a = row_is p (row_at s p) i refl in
      let b = row_is q (row_at s q) j refl in
      h.apart p q a.attr b.attr a.there b.there (a.slot ∙ e ∙ sym b.slot)

-- ---- a row is replaced

module _ (tree : Groups) (rows : List Attr) (h : HasRows tree rows) (s : Groups) (v : with_rows tree rows ≡ s) (at : ℕ) (y : Attr) (p : Path) (i : IsSome (fin.get s p)) (e : at ≡ row_at s p) where
  abbrev its : HasRow tree rows h s v p at
  its = row_is tree rows h s v p at i e

  own_row : in_row (set rows at y) its.attr ≡ y
  own_row = get_or-set_at rows at its.attr.slot y its.attr its.slot its.inside

  other_rows : (q : Path) (b : Attr) → (q ≡ p → ⊥) → fin.get tree q ≡ Some b → in_row (set rows at y) b ≡ in_row rows b
  other_rows q b apart there = get_or-set_other rows at b.slot y b (λ same. apart (h.apart q p b its.attr there its.there (same ∙ sym its.slot)))

  pub put_is : with_rows tree (set rows at y) ≡ fin.insert s p y
  put_is = written tree tree rows (set rows at y) p its.attr y (same_split tree p its.attr its.there) own_row other_rows ∙ ap (λ (m : Groups). fin.insert m p y) v

  pub put_rows : ((q : Path) (a : Attr) → fin.get s q ≡ Some a → at ≡ row_at s q → y.slot ≡ a.slot) → HasRows tree (set rows at y)
  put_rows same =
      let split = same_split tree p its.attr its.there in
      let was : fin.get s p ≡ Some (in_row rows its.attr) = ap (λ (m : Groups). fin.get m p) (sym v) ∙ in_tree tree rows p its.attr its.there in
      let alike = same p (in_row rows its.attr) was e in
      let is : fin.get (with_rows tree (set rows at y)) p ≡ Some y = in_tree tree (set rows at y) p its.attr its.there ∙ ap Some own_row in
      let slot : slot_at (with_rows tree (set rows at y)) p ≡ slot_at s p = ap slot_of is ∙ alike ∙ sym (ap slot_of was) in
      let number : its.attr.slot ≡ row_at (with_rows tree (set rows at y)) p = its.slot ∙ e ∙ sym (row_at_same (with_rows tree (set rows at y)) s p slot) in
      has_rows tree tree rows (set rows at y) p its.attr y split own_row other_rows h h.closed
      (omega (arith, length-set rows at y, its.slot, its.inside)) (omega (arith, length-set rows at y)) number
      (λ q b apart there same. apart (h.apart q p b its.attr there its.there same))

-- ---- a group is made

module _ (tree : Groups) (rows : List Attr) (h : HasRows tree rows) (s : Groups) (v : with_rows tree rows ≡ s) (long : List Attr)
    (longer : length rows ≤ length long) (kept : (k : ℕ) (d : Attr) → k < length rows → get_or long k d ≡ get_or rows k d) where
  kept_row : (q : Path) (a : Attr) → fin.get tree q ≡ Some a → in_row long a ≡ in_row rows a
  kept_row q a e = kept a.slot a (h.each q a e).inside

  -- there are more rows
  long_same : with_rows tree long ≡ with_rows tree rows
  long_same = fin.same_map path_cmp-IsTotalOrder path_cmp-IsAntisymmetric _ _ (λ q. get-rows tree long q ∙ by q (fin.get tree q) refl ∙ sym (get-rows tree rows q))
    where
      by : (q : Path) (o : Option Attr) → fin.get tree q ≡ o → option_map (in_row long) o ≡ option_map (in_row rows) o
      by q None e = refl
      by q (Some a) e = ap Some (kept_row q a e)

  pub long_is : with_rows tree long ≡ s
  long_is = long_same ∙ v

  pub long_rows : HasRows tree long
  long_rows = record {
    closed = h.closed;
    each = λ q a e. let old = h.each q a e in record {
      inside = let inside = old.inside in omega (arith, inside, longer);
      number = old.number ∙ ap (λ (m : Groups). row_at m q) (sym long_same);
    };
    apart = h.apart;
  }

  module _ (p : Path) (x y : Attr) (named : 0 < length p) (number : x.slot ≡ y.slot + 1) (listed : x.slot < length long)
      (free : (q : Path) → 0 < length q → IsSome (fin.get s q) → slot_at s q ≢ y.slot) (new : Groups) (is : new ≡ fin.insert tree p x) where
    split : (q : Path) → ((q ≡ p) × (fin.get new q ≡ Some x)) ⊎ ((q ≡ p → ⊥) × (fin.get new q ≡ fin.get tree q))
    split q = subst (λ (m : Groups). ((q ≡ p) × (fin.get m q ≡ Some x)) ⊎ ((q ≡ p → ⊥) × (fin.get m q ≡ fin.get tree q))) (sym is) (which tree p x q)

    unused : (q : Path) (b : Attr) → fin.get tree q ≡ Some b → b.slot ≢ x.slot
    unused q b e same = by q (number_is tree rows h s v q b e).0 ((number_is tree rows h s v q b e).1)
      where
        by : (q : Path) → IsSome (fin.get s q) → b.slot ≡ row_at s q → ⊥
        by [] i z = omega (arith, z, same, number)
        by (n ∷ q) i z = free (n ∷ q) (omega arith) i (omega (arith, z, same, number))

    made_row : in_row (set long x.slot y) x ≡ y
    made_row = get_or-set_at long x.slot x.slot y x refl listed

    made_others : (q : Path) (b : Attr) → (q ≡ p → ⊥) → fin.get tree q ≡ Some b → in_row (set long x.slot y) b ≡ in_row rows b
    made_others q b apart e = get_or-set_other long x.slot b.slot y b (unused q b e) ∙ kept_row q b e

    pub made_is : with_rows new (set long x.slot y) ≡ fin.insert s p y
    made_is = written tree new rows (set long x.slot y) p x y split made_row made_others ∙ ap (λ (m : Groups). fin.insert m p y) v

    pub made_rows : IsClosed new → HasRows new (set long x.slot y)
    made_rows closed =
        let own : fin.get (with_rows new (set long x.slot y)) p ≡ Some y = ap (λ (m : Groups). fin.get m p) (written tree new rows (set long x.slot y) p x y split made_row made_others) ∙ get-own path_cmp-IsTotalOrder path_cmp-IsAntisymmetric (with_rows tree rows) p y in
        has_rows tree new rows (set long x.slot y) p x y split made_row made_others h closed
        (omega (arith, length-set long x.slot y, listed)) (omega (arith, length-set long x.slot y, longer))
        (by p named own) (λ q b apart e. unused q b e)
      where
        by : (q : Path) → 0 < length q → fin.get (with_rows new (set long x.slot y)) q ≡ Some y → x.slot ≡ row_at (with_rows new (set long x.slot y)) q
        by [] pos e = absurd (omega (arith, pos))
        by (n ∷ q) pos e = omega (arith, number, ap slot_of e)

-- ---- a group is removed

module _ (tree : Groups) (rows : List Attr) (h : HasRows tree rows) (s : Groups) (v : with_rows tree rows ≡ s) (p : Path) (new : Groups) (is : new ≡ fin.remove tree p) where
  pub left_is : with_rows new rows ≡ fin.remove s p
  left_is = ap (λ (m : Groups). with_rows m rows) is ∙ map_values-remove (in_row rows) path_cmp-IsTotalOrder path_cmp-IsAntisymmetric tree p ∙ ap (λ (m : Groups). fin.remove m p) v

  left : (q : Path) (b : Attr) → fin.get new q ≡ Some b → fin.get tree q ≡ Some b
  left q b e = by (eq_by_cmp path_cmp q p) (ap (λ (m : Groups). fin.get m q) (sym is) ∙ e) (fin.get-remove path_cmp-IsTotalOrder tree p q)
    where
      by : (c : Bool) → fin.get (fin.remove tree p) q ≡ Some b → fin.get (fin.remove tree p) q ≡ cond c None (fin.get tree q) → fin.get tree q ≡ Some b
      by true f g = let none : ◌≡◌ {A = Option Attr} (Some b) None = sym f ∙ g in cc
      by false f g = sym g ∙ f

  pub left_rows : IsClosed new → HasRows new rows
  left_rows closed = record {
    closed = closed;
    each = λ q b e. let old = h.each q b (left q b e) in record {
      inside = old.inside;
      number = old.number ∙ row_at_same (with_rows tree rows) (with_rows new rows) q
          (ap slot_of (in_tree tree rows q b (left q b e)) ∙ sym (ap slot_of (in_tree new rows q b e)));
    };
    apart = λ q r b c e f same. h.apart q r b c (left q b e) (left r c f) same;
  }

-- what holds in any case
pub in_any_case : {T E : Type 0} {P : Type 0} (r : Result T E) → P → OnErr r P
in_any_case (Ok x) h = tt
in_any_case (Err f) h = h

-- what holds of a success
pub in_that_case : {T E : Type 0} {P : Type 0} (r : Result T E) → is_err r ≡ false → OnOk r P → P
in_that_case (Ok x) e h = h
in_that_case (Err f) e h = cc
