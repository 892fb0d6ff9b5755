-- The list of all groups is the keys of the state's groups, in their order.
use Rattle.std.proofs.Common.{◌≡◌, ℕ, zero, suc, ◌≤◌, true, inl, inr, List, [], ◌∷◌, ◌++◌, map, length, filter, refl, ap, sym, ◌∙◌, subst, append_assoc, append-nil, length-append, arith}
use Rattle.std.specs.Cmp.{tied_itself}
use Rattle.std.specs.Ordering.{ordering_then}
use Rattle.std.specs.declared.cmp.Ordering.{Ordering}
use Rattle.std.specs.declared.cmp.Ordering.TheVariants.{Less, Equal, Greater}
use Rattle.std.specs.FinMap.{keys, entries, entries_sorted}
use Rattle.flat_model.specs.Path.{Name, Path, HasPrefix, name_cmp, path_cmp, at_or_below}
use Rattle.flat_model.specs.State.{State}
use Rattle.flat_model.specs.Counts.{is_group, children}
use Rattle.flat_model.specs.WellFormed.{WellFormed}
use Rattle.flat_model.proofs.PathLaws.{name_cmp-IsTotalOrder, path_cmp-IsTotalOrder, at_or_below_is}
use Rattle.group_tree.specs.ChildNames.{last_name, is_child}
use Rattle.line_engine.specs.Listings.{all_groups, subtree, groups_from, names_below}
use Rattle.listing_laws.proofs.Members.{Among, contains_among, among_contains, flat_among, map_among, among_filter, filter_among}
use Rattle.listing_laws.proofs.Order.{Ascends, ascends_keys, ascends_filter, ascends_flat, same_lists}
use Rattle.listing_laws.proofs.AllGroups.{child_is, there, stands, listed_stands, standing_listed, listed_are}

-- ---- the order of paths behind the same names

behind : (p u v : Path) → path_cmp (p ++ u) (p ++ v) ≡ path_cmp u v
behind [] u v = refl
behind (m ∷ p) u v = ap (λ o. ordering_then o (path_cmp (p ++ u) (p ++ v))) (tied_itself name_cmp-IsTotalOrder m) ∙ behind p u v

before_below : (p : Path) (name : Name) (rest : Path) → path_cmp p (p ++ name ∷ rest) ≡ Less
before_below p name rest = ap (λ (q : Path). path_cmp q (p ++ name ∷ rest)) (sym (append-nil p)) ∙ behind p [] (name ∷ rest)

by_names : (p : Path) (a b : Name) (u v : Path) → name_cmp a b ≡ Less → path_cmp (p ++ a ∷ u) (p ++ b ∷ v) ≡ Less
by_names p a b u v l = behind p (a ∷ u) (b ∷ v) ∙ ap (λ o. ordering_then o (path_cmp u v)) l

then_equal : (o : Ordering) → ordering_then o Equal ≡ Less → o ≡ Less
then_equal Less h = refl
then_equal Equal h = h
then_equal Greater h = cc

-- ---- the names below a group

ascends_last : (g : Path) (cs : List Path) → ((c : Path) → Among cs c → g ++ last_name c ∷ [] ≡ c) → Ascends path_cmp cs → Ascends name_cmp (map last_name cs)
ascends_last g [] is h = tt
ascends_last g (c ∷ cs) is h = (
  λ y a.
      let r = map_among last_name cs y a in
      let less : path_cmp (g ++ last_name c ∷ []) (g ++ last_name r.0 ∷ []) ≡ Less = (λ i. path_cmp (is c (inl refl) i) (is r.0 (inr r.1) i)) ∙ h.0 r.0 r.1 in
      ap (name_cmp (last_name c)) (sym r.2) ∙ then_equal (name_cmp (last_name c) (last_name r.0)) (sym (behind g (last_name c ∷ []) (last_name r.0 ∷ [])) ∙ less),
  ascends_last g cs (λ d a. is d (inr a)) h.1,
)

module _ (s : State) where
  keys_ascend : Ascends path_cmp (keys s.groups)
  keys_ascend = ascends_keys path_cmp (entries s.groups) (entries_sorted s.groups)

  names_ascend : (p : Path) → Ascends name_cmp (names_below s p)
  names_ascend p =
      ascends_last p (children s p) (λ c a. child_is p c (filter_among (is_child p) (keys s.groups) c a).1)
      (ascends_filter path_cmp (is_child p) (keys s.groups) keys_ascend)

  -- ---- the groups below a group

  below_it : (n : ℕ) (p q : Path) → Among (groups_from s n p) q → HasPrefix q p
  below_it zero p q h = absurd h
  below_it (suc n) p q (inl e) = ([], sym e ∙ sym (append-nil p))
  below_it (suc n) p q (inr h) =
      let d = flat_among (λ name. groups_from s n (p ++ name ∷ [])) (names_below s p) q h in
      let b = below_it n (p ++ d.0 ∷ []) q d.2 in
      (d.0 ∷ b.0, b.1 ∙ append_assoc p (d.0 ∷ []) b.0)

  -- below a child, behind its name
  below_child : (n : ℕ) (p : Path) (name : Name) (q : Path) → Among (groups_from s n (p ++ name ∷ [])) q → (rest : Path) × (q ≡ p ++ name ∷ rest)
  below_child n p name q h = let b = below_it n (p ++ name ∷ []) q h in (b.0, b.1 ∙ append_assoc p (name ∷ []) b.0)

  pub groups_ascend : (n : ℕ) (p : Path) → Ascends path_cmp (groups_from s n p)
  groups_ascend zero p = tt
  groups_ascend (suc n) p = (
    λ q a.
        let d = flat_among (λ name. groups_from s n (p ++ name ∷ [])) (names_below s p) q a in
        let b = below_child n p d.0 q d.2 in
        ap (path_cmp p) b.1 ∙ before_below p d.0 b.0,
    ascends_flat name_cmp path_cmp (λ name. groups_from s n (p ++ name ∷ [])) (names_below s p) (names_ascend p) (λ name. groups_ascend n (p ++ name ∷ []))
        (λ a b l u v x y.
        let c = below_child n p a u x in
        let d = below_child n p b v y in
        (λ i. path_cmp (c.1 i) (d.1 i)) ∙ by_names p a b c.0 d.0 l),
  )

  pub groups_are_keys : (slots : ℕ) → WellFormed slots s → ((p : Path) → is_group s p ≡ true → length p ≤ 32) → all_groups s ≡ keys s.groups
  groups_are_keys slots w shallow =
      same_lists path_cmp path_cmp-IsTotalOrder (all_groups s) (keys s.groups) (groups_ascend 33 []) keys_ascend
      (λ q a. there s q ((listed_are s slots w shallow q).0 (contains_among (all_groups s) q a)))
      (λ q a. among_contains (all_groups s) q ((listed_are s slots w shallow q).1 (stands s q a)))

  -- the groups at or below p, among the keys
  pub subtree_is : (slots : ℕ) → WellFormed slots s → ((p : Path) → is_group s p ≡ true → length p ≤ 32) → (p : Path) → is_group s p ≡ true
      → subtree s p ≡ filter (λ q. at_or_below q p) (keys s.groups)
  subtree_is slots w shallow p g =
      same_lists path_cmp path_cmp-IsTotalOrder (subtree s p) (filter (λ q. at_or_below q p) (keys s.groups)) (groups_ascend 33 p)
      (ascends_filter path_cmp (λ q. at_or_below q p) (keys s.groups) keys_ascend)
      (λ q a. among_filter (λ r. at_or_below r p) (keys s.groups) q (there s q (listed_stands s 33 p q g a)) ((at_or_below_is q p).1 (below_it 33 p q a)))
      (λ q a.
      let f = filter_among (λ r. at_or_below r p) (keys s.groups) q a in
      let b = (at_or_below_is q p).0 f.1 in
      let g2 : is_group s (p ++ b.0) ≡ true = ap (is_group s) (sym b.1) ∙ stands s q f.0 in
      let l = shallow (p ++ b.0) g2 in
      let e = length-append p b.0 in
      subst (Among (subtree s p)) (sym b.1) (standing_listed s slots w 33 p b.0 g2 (omega (arith, l, e))))
