-- The list of all groups has each group that stands, and nothing else.
use Rattle.std.proofs.Common.{◌≡◌, ℕ, zero, suc, ◌<◌, ◌≤◌, true, false, not, ◌&&◌, ◌↔◌, inl, inr, [], ◌∷◌, ◌++◌, length, refl, ap, sym, ◌∙◌, subst, append_assoc, append-nil, arith}
use Rattle.std.specs.List.{Contains}
use Rattle.std.specs.FinMap.{keys, contains_key-keys}
use Rattle.flat_model.specs.Path.{Name, Path, parent, is_root, same_path}
use Rattle.flat_model.specs.State.{State}
use Rattle.flat_model.specs.Counts.{is_group, children}
use Rattle.flat_model.specs.WellFormed.{WellFormed}
use Rattle.flat_model.proofs.GroupCounts.{groups_above}
use Rattle.flat_model.proofs.PathLaws.{same_path_is, at_or_below-append, parent-child}
use Rattle.group_tree.specs.ChildNames.{last_name, is_child}
use Rattle.line_engine.specs.Listings.{all_groups, groups_from, names_below}
use Rattle.listing_laws.proofs.Members.{Among, contains_among, among_contains, among_flat, flat_among, among_map, map_among, among_filter, filter_among, any_among, among_any}
use Rattle.group_tree.proofs.Parents.{parent-one, parent-cons}

-- ---- a path and its last name

last_name-child : (p : Path) (name : Name) → last_name (p ++ name ∷ []) ≡ name
last_name-child [] name = refl
last_name-child (m ∷ []) name = refl
last_name-child (m ∷ k ∷ p) name = last_name-child (k ∷ p) name

parent_and_last : (n : Name) (p : Path) → parent (n ∷ p) ++ last_name (n ∷ p) ∷ [] ≡ n ∷ p
parent_and_last n [] = ap (λ (q : Path). q ++ n ∷ []) (parent-one n)
parent_and_last n (m ∷ p) = ap (λ (q : Path). q ++ last_name (m ∷ p) ∷ []) (parent-cons n m p) ∙ ap (λ (q : Path). n ∷ q) (parent_and_last m p)

pub child_is : (g p : Path) → is_child g p ≡ true → g ++ last_name p ∷ [] ≡ p
child_is g [] h = cc
child_is g (n ∷ p) h = ap (λ (q : Path). q ++ last_name (n ∷ p) ∷ []) (sym ((same_path_is (parent (n ∷ p)) g).0 h)) ∙ parent_and_last n p

not_root : (p : Path) (name : Name) → is_root (p ++ name ∷ []) ≡ false
not_root [] name = refl
not_root (m ∷ p) name = refl

is_its_child : (p : Path) (name : Name) → is_child p (p ++ name ∷ []) ≡ true
is_its_child p name = ap (λ b. not b && same_path (parent (p ++ name ∷ [])) p) (not_root p name) ∙ (same_path_is (parent (p ++ name ∷ [])) p).1 (parent-child p name)

-- ---- the groups one name below a group

module _ (s : State) where
  pub there : (q : Path) → is_group s q ≡ true → Among (keys s.groups) q
  there q h = any_among q (keys s.groups) (sym (contains_key-keys s.groups q) ∙ h)

  pub stands : (q : Path) → Among (keys s.groups) q → is_group s q ≡ true
  stands q h = contains_key-keys s.groups q ∙ among_any q (keys s.groups) h

  pub named_below : (p : Path) (name : Name) → is_group s (p ++ name ∷ []) ≡ true → Among (names_below s p) name
  named_below p name h =
      subst (Among (names_below s p)) (last_name-child p name)
      (among_map last_name (children s p) (p ++ name ∷ []) (among_filter (is_child p) (keys s.groups) (p ++ name ∷ []) (there (p ++ name ∷ []) h) (is_its_child p name)))

  pub stands_below : (p : Path) (name : Name) → Among (names_below s p) name → is_group s (p ++ name ∷ []) ≡ true
  stands_below p name h =
      let c = map_among last_name (children s p) name h in
      let f = filter_among (is_child p) (keys s.groups) c.0 c.1 in
      ap (is_group s) (ap (λ (n : Name). p ++ n ∷ []) (sym c.2) ∙ child_is p c.0 f.1) ∙ stands c.0 f.0

  -- ---- all that is listed stands

  pub listed_stands : (n : ℕ) (p q : Path) → is_group s p ≡ true → Among (groups_from s n p) q → is_group s q ≡ true
  listed_stands zero p q g h = absurd h
  listed_stands (suc n) p q g (inl e) = ap (is_group s) (sym e) ∙ g
  listed_stands (suc n) p q g (inr h) =
      let d = flat_among (λ name. groups_from s n (p ++ name ∷ [])) (names_below s p) q h in
      listed_stands n (p ++ d.0 ∷ []) q (stands_below p d.0 d.1) d.2

  -- ---- and all that stands is listed

  module _ (slots : ℕ) (w : WellFormed slots s) where
    pub standing_listed : (n : ℕ) (p rest : Path) → is_group s (p ++ rest) ≡ true → length rest < n → Among (groups_from s n p) (p ++ rest)
    standing_listed zero p rest g l = absurd (omega (arith, l))
    standing_listed (suc n) p [] g l = inl (sym (append-nil p))
    standing_listed (suc n) p (name ∷ rest) g l =
        let split : (p ++ name ∷ []) ++ rest ≡ p ++ name ∷ rest = append_assoc p (name ∷ []) rest in
        let whole : is_group s ((p ++ name ∷ []) ++ rest) ≡ true = ap (is_group s) split ∙ g in
        let child : is_group s (p ++ name ∷ []) ≡ true = groups_above slots s ((p ++ name ∷ []) ++ rest) (p ++ name ∷ []) w whole (at_or_below-append (p ++ name ∷ []) rest) in
        inr (among_flat (λ m. groups_from s n (p ++ m ∷ [])) (names_below s p) name (p ++ name ∷ rest) (named_below p name child)
        (subst (Among (groups_from s n (p ++ name ∷ []))) split (standing_listed n (p ++ name ∷ []) rest whole (omega (arith, l)))))

    pub listed_are : ((p : Path) → is_group s p ≡ true → length p ≤ 32) → (q : Path) → Contains (all_groups s) q ↔ (is_group s q ≡ true)
    listed_are shallow q = (
      λ h. listed_stands 33 [] q w.root (among_contains (all_groups s) q h),
      λ g. let l = shallow q g in contains_among (all_groups s) q (standing_listed 33 [] q g (omega (arith, l))),
    )
