-- Groups whose attributes are in rows: what the tree alone says of them.
use Rattle.std.proofs.Common.{◌≡◌, ℕ, inl, inr, true, Option, Some, None, IsSome, Result, Ok, Err, is_err, List, [], ◌∷◌, get_or, option_map, sym, ap, ◌∙◌, subst, arith}
use Rattle.std.specs.FinMap as fin
use Rattle.flat_model.specs.Path.{Name, Path, path_cmp}
use Rattle.flat_model.specs.Mapped.{map_values}
use Rattle.flat_model.proofs.MapValues.{get-map_values, keys-map_values, map_values-insert}
use Rattle.flat_model.proofs.PathLaws.{path_cmp-IsTotalOrder, path_cmp-IsAntisymmetric}
use Rattle.group_tree.specs.ChildNames.{NamesChildren, child_names}
use Rattle.group_tree.specs.Groups.{Groups, IsClosed, Inserts, Removes, only_root}
use Rattle.group_tree.specs.declared.attr.Attr.{Attr}
use Rattle.group_tree.specs.declared.fault.TreeFault.{TreeFault}
use Rattle.group_tree.specs.declared.fault.TreeFault.TheVariants as fault
use Rattle.pids_charge.specs.GroupRows.{in_row, with_rows, HasRows}
use Rattle.pids_charge.specs.Lists.{row_at}
use Rattle.pids_charge.proofs.Changes.{which}
use Rattle.pids_charge.proofs.InRows.{known_or_not, there_too, absent_is}

module _ (tree : Groups) (rows : List Attr) (h : HasRows tree rows) (s : Groups) (v : with_rows tree rows ≡ s) where
  same_keys : fin.keys s ≡ fin.keys tree
  same_keys = ap (λ (m : Groups). fin.keys m) (sym v) ∙ keys-map_values (in_row rows) tree

  present : (p : Path) → IsSome (fin.get tree p) → IsSome (fin.get s p)
  present p i = elim (known_or_not (fin.get tree p)) [
    | inl none ↦ let gone : IsSome {T = Attr} None = subst IsSome none i in cc
    | inr found ↦ subst (λ (m : Groups). IsSome (fin.get m p)) v (there_too tree rows p found.0 found.1)
  ]

  -- the names of children
  pub names_too : (p : Path) (o : Option (List Name)) → NamesChildren tree p o → NamesChildren s p o
  names_too p None e = absent_is tree rows h s v p e
  names_too p (Some names) e = (present p e.0, e.1 ∙ ap (λ (ps : List Path). child_names ps p) (sym same_keys))

  -- ---- a refused removal

  pub not_removed : (p : Path) (new : Groups) (f : TreeFault) → Removes tree new p (Err f) → new ≡ tree
  not_removed p new fault.RootFixed e = e.1
  not_removed p new fault.NoGroup e = e.2
  not_removed p new fault.HasChildren e = e.3
  not_removed p new fault.Exists e = absurd e
  not_removed p new fault.NoParent e = absurd e
  not_removed p new fault.OutOfMemory e = absurd e

  pub refused_too : (p : Path) (new after : Groups) (f : TreeFault) → after ≡ s → Removes tree new p (Err f) → Removes s after p (Err f)
  refused_too p new after fault.RootFixed is e = (e.0, is)
  refused_too p new after fault.NoGroup is e = (e.0, absent_is tree rows h s v p e.1, is)
  refused_too p new after fault.HasChildren is e = (e.0, present p e.1, record { path = e.2.path; below = e.2.below; there = present e.2.path e.2.there }, is)
  refused_too p new after fault.Exists is e = absurd e
  refused_too p new after fault.NoParent is e = absurd e
  refused_too p new after fault.OutOfMemory is e = absurd e

-- ---- the root alone

module _ (a : Attr) (zero_slot : a.slot ≡ 0) (tree : Groups) (is : tree ≡ only_root a) where
  lone_row : in_row (a ∷ []) a ≡ a
  lone_row = ap (λ (k : ℕ). get_or (a ∷ []) k a) zero_slot

  emptied : map_values (in_row (a ∷ [])) (fin.empty {X = Attr} {R = path_cmp}) ≡ fin.empty
  emptied = fin.same_map path_cmp-IsTotalOrder path_cmp-IsAntisymmetric _ _ (λ q.
      get-map_values (in_row (a ∷ [])) fin.empty q ∙ ap (option_map (in_row (a ∷ []))) (fin.get-empty {X = Attr} path_cmp q) ∙ sym (fin.get-empty {X = Attr} path_cmp q))

  pub alone_is : with_rows tree (a ∷ []) ≡ only_root a
  alone_is =
      ap (λ (m : Groups). with_rows m (a ∷ [])) is ∙ map_values-insert (in_row (a ∷ [])) path_cmp-IsTotalOrder path_cmp-IsAntisymmetric fin.empty [] a
      ∙ ap (λ (m : Groups). fin.insert m [] (in_row (a ∷ []) a)) emptied ∙ ap (λ (b : Attr). fin.insert fin.empty [] b) lone_row

  root_only : (p : Path) (b : Attr) → fin.get tree p ≡ Some b → (p ≡ []) × (b ≡ a)
  root_only p b e = elim (which fin.empty [] a p) [
    | inl w ↦ (w.0, let same : ◌≡◌ {A = Option Attr} (Some b) (Some a) = sym e ∙ ap (λ (m : Groups). fin.get m p) is ∙ w.1 in cc)
    | inr w ↦ let none : ◌≡◌ {A = Option Attr} (Some b) None = sym e ∙ ap (λ (m : Groups). fin.get m p) is ∙ w.1 ∙ fin.get-empty {X = Attr} path_cmp p in cc
  ]

  pub alone_rows : IsClosed tree → HasRows tree (a ∷ [])
  alone_rows closed = record {
    closed = closed;
    each = λ p b e.
        let only = root_only p b e in
        let slot : b.slot ≡ 0 = ap (λ (c : Attr). c.slot) only.1 ∙ zero_slot in
        record {
          inside = omega (arith, slot);
          number = slot ∙ sym (ap (row_at (with_rows tree (a ∷ []))) only.0);
        };
    apart = λ p q b c e f same. (root_only p b e).0 ∙ sym (root_only q c f).0;
  }

-- ---- an insertion that the tree refused

pub not_inserted : (old new : Groups) (p : Path) (a : Attr) (r : Result (Unit {0}) TreeFault) → is_err r ≡ true → Inserts old new p a r → new ≡ old
not_inserted old new p a (Ok u) e h = cc
not_inserted old new p a (Err fault.Exists) e h = h.1
not_inserted old new p a (Err fault.NoParent) e h = h.2
not_inserted old new p a (Err fault.OutOfMemory) e h = h.2
not_inserted old new p a (Err fault.NoGroup) e h = absurd h
not_inserted old new p a (Err fault.HasChildren) e h = absurd h
not_inserted old new p a (Err fault.RootFixed) e h = absurd h
