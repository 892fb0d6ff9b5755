-- How many groups are below a group, when one is made or removed.
use Rattle.std.proofs.Common.{◌≡◌, ◌≢◌, ℕ, ◌+◌, ◌-◌, ◌<◌, ◌≤◌, ◌&&◌, inl, inr, Bool, true, false, cond, not, ltb, List, [], ◌∷◌, length, map, take, count_by, Some, None, IsSome, refl, sym, ap, ◌∙◌, subst, arith}
use Rattle.std.proofs.lemmas.Bool.{cases_lt, false≢true}
use Rattle.std.proofs.lemmas.Bool.Decides.{nat_tests}
use Rattle.std.proofs.lemmas.List.{length-map, length-take-le}
use Rattle.std.proofs.lemmas.List.Sums.{count_by-le-length}
use Rattle.std.proofs.Math.Seq.{take-length}
use Rattle.std.specs.declared.cmp.Ordering.TheVariants.{Less, Equal, Greater}
use Rattle.std.specs.List.{list_any}
use Rattle.std.specs.Ordering.{is_eq}
use Rattle.std.specs.FinMap as fin
use Rattle.std.specs.FinMap.Entries.{put, by_order}
use Rattle.flat_model.specs.Path.{Path, path_cmp, parent, at_or_below, strictly_below, same_path}
use Rattle.flat_model.proofs.Maps.{insert_remove}
use Rattle.flat_model.proofs.MapValues.{keys-map_values}
use Rattle.flat_model.proofs.PathLaws.{path_cmp-IsTotalOrder, path_cmp-IsAntisymmetric, at_or_below_either, at_or_below_itself, at_or_below_length, at_or_below_take, at_or_below_through, parent_above, same_path_is, same_path_itself}
use Rattle.flat_model.proofs.Sums.{count_by-cons}
use Rattle.group_tree.specs.Flat.{group_of}
use Rattle.group_tree.specs.Groups.{Groups, IsClosed, descendant_count}
use Rattle.group_tree.specs.declared.attr.Attr.{Attr}
use Rattle.group_tree.proofs.Flat.{counts_as_flat}
use Rattle.group_tree.proofs.GroupPrefixes.{prefix_there}
use Rattle.pids_charge.proofs.Removals.{any-count}

-- ---- paths

-- above a path, but not the path: at or above its parent
pub above_parent : (f q : Path) → 0 < length f → (q ≡ f → ⊥) → at_or_below (parent f) q ≡ at_or_below f q
above_parent f q pos apart = elim (at_or_below f q) as (λ b. at_or_below f q ≡ b → at_or_below (parent f) q ≡ b) [
  | true ↦ λ t.
      let is = at_or_below_take f q t in
      let short = at_or_below_length f q t in
      let size : length (parent f) ≡ length f - 1 = length-take-le (length f - 1) f (omega arith) in
      elim (at_or_below_either f (parent f) q (parent_above f) t) [
        | inl u ↦ u
        | inr u ↦
            let long = at_or_below_length q (parent f) u in
            let ne : length q ≢ length f = λ e. apart (is ∙ ap (λ (k : ℕ). take k f) e ∙ take-length f) in
            let same : length q ≡ length f - 1 = elim (cases_lt (length q) (length f)) [ inl lt ↦ omega (arith, lt, long, size) | inr le ↦ absurd (ne (omega (arith, le, short))) ] in
            let own : q ≡ parent f = is ∙ ap (λ (k : ℕ). take k f) same in
            subst (λ (r : Path). at_or_below (parent f) r ≡ true) (sym own) (at_or_below_itself (parent f))
      ]
  | false ↦ λ t. elim (at_or_below (parent f) q) as (λ b. at_or_below (parent f) q ≡ b → b ≡ false) [
    | true ↦ λ u. absurd (false≢true (sym t ∙ at_or_below_through f (parent f) q (parent_above f) u))
    | false ↦ λ u. refl
  ] refl
] refl

pub not_above : (f : Path) → 0 < length f → at_or_below (parent f) f ≡ false
not_above f pos = elim (at_or_below (parent f) f) as (λ b. at_or_below (parent f) f ≡ b → b ≡ false) [
  | true ↦ λ t. absurd (omega (arith, pos, at_or_below_length (parent f) f t, length-take-le (length f - 1) f (omega arith)))
  | false ↦ λ t. refl
] refl

pub strictly_above : (p q : Path) → 0 < length p → (q ≡ p → ⊥) → strictly_below p q ≡ at_or_below (parent p) q
strictly_above p q pos apart =
    let other : same_path p q ≡ false = elim (same_path p q) as (λ b. same_path p q ≡ b → b ≡ false) [
      | true ↦ λ t. absurd (apart (sym ((same_path_is p q).0 t)))
      | false ↦ λ t. refl
    ] refl in
    ap (λ b. at_or_below p q && not b) other ∙ plain (at_or_below p q) ∙ sym (above_parent p q pos apart)
  where
    plain : (b : Bool) → (b && true) ≡ b
    plain true = refl
    plain false = refl

pub not_itself : (p : Path) → strictly_below p p ≡ false
not_itself p = ap (λ b. at_or_below p p && not b) (same_path_itself p) ∙ never (at_or_below p p)
  where
    never : (b : Bool) → (b && false) ≡ false
    never true = refl
    never false = refl

-- ---- counts

module _ (P : Path → Bool) where
  count_put : (k : Path) (v : Attr) (es : List (Path × Attr)) → fin.find path_cmp k es ≡ None → count_by P (map (λ e. e.0) (put path_cmp k v es)) ≡ cond (P k) 1 0 + count_by P (map (λ e. e.0) es)
  count_put k v [] h = omega arith
  count_put k v (e ∷ es) h =
      elim (path_cmp k e.0) as (λ r. cond (is_eq r) (Some e.1) (fin.find path_cmp k es) ≡ None
      → count_by P (map (λ e. e.0) (by_order r ((k, v) ∷ e ∷ es) ((e.0, v) ∷ es) (e ∷ put path_cmp k v es)))
      ≡ cond (P k) 1 0 + count_by P (map (λ e. e.0) (e ∷ es))) [
        | Less ↦ λ n. count_by-cons P k (map (λ e. e.0) (e ∷ es))
        | Equal ↦ λ n. cc
        | Greater ↦ λ n. let ih = count_put k v es n in
            count_by-cons P e.0 (map (λ e. e.0) (put path_cmp k v es))
            ∙ (let a : cond (P e.0) 1 0 + count_by P (map (λ e. e.0) (put path_cmp k v es)) ≡ cond (P k) 1 0 + (cond (P e.0) 1 0 + count_by P (map (λ e. e.0) es)) = omega arith in a)
            ∙ ap (λ n. cond (P k) 1 0 + n) (sym (count_by-cons P e.0 (map (λ e. e.0) es)))
      ] h

  count_more : (m : Groups) (p : Path) (x : Attr) → fin.get m p ≡ None → count_by P (fin.keys (fin.insert m p x)) ≡ cond (P p) 1 0 + count_by P (fin.keys m)
  count_more m p x h = ap (λ es. count_by P (map (λ e. e.0) es)) (fin.entries-insert path_cmp-IsTotalOrder m p x) ∙ count_put p x (fin.entries m) (sym (fin.get-entries m p) ∙ h)

-- a group is made
pub below_made : (m : Groups) (p : Path) (x : Attr) (q : Path) → fin.get m p ≡ None → descendant_count (fin.insert m p x) q ≡ cond (strictly_below p q) 1 0 + descendant_count m q
below_made m p x q h = count_more (λ r. strictly_below r q) m p x h

-- a group is removed
pub below_left : (m : Groups) (p : Path) (x : Attr) (q : Path) → fin.get m p ≡ Some x → fin.get (fin.remove m p) p ≡ None
    → descendant_count m q ≡ cond (strictly_below p q) 1 0 + descendant_count (fin.remove m p) q
below_left m p x q here gone =
    ap (λ (n : Groups). descendant_count n q) (sym (insert_remove path_cmp-IsTotalOrder path_cmp-IsAntisymmetric m p x here)) ∙ below_made (fin.remove m p) p x q gone

-- there are no more than the groups
pub below_few : (m : Groups) (q : Path) → descendant_count m q ≤ fin.len m
below_few m q =
    let all = count_by-le-length (λ r. strictly_below r q) (fin.keys m) in
    let long = length-map (fin.entries m) (λ e. e.0) in
    let size = fin.len-entries m in
    omega (arith, all, long, size)

-- none is below a path without a group
pub none_below : (m : Groups) (p : Path) → IsClosed m → fin.get m p ≡ None → descendant_count m p ≡ 0
none_below m p closed absent =
    let names = keys-map_values group_of m in
    let any = any-count (λ q. strictly_below q p) (fin.keys m) in
    elim (list_any (λ q. strictly_below q p) (fin.keys m)) as (λ b. list_any (λ q. strictly_below q p) (fin.keys m) ≡ b → b ≡ ltb 0 (descendant_count m p) → descendant_count m p ≡ 0) [
      | true ↦ λ t e.
          let some = ((counts_as_flat m).below p).0 (ap (list_any (λ q. strictly_below q p)) names ∙ t) in
          let there : IsSome (fin.get m p) = prefix_there m closed some.path p some.there (at_strictly some.path p some.below) in
          let gone : IsSome {T = Attr} None = subst IsSome absent there in cc
      | false ↦ λ t e. grind (arith, nat_tests, e)
    ] refl any
  where
    at_strictly : (q p : Path) → strictly_below q p ≡ true → at_or_below q p ≡ true
    at_strictly q p t = elim (at_or_below q p) as (λ b. (b && not (same_path q p)) ≡ true → b ≡ true) [ true ↦ λ e. refl | false ↦ λ e. cc ] t

-- the group itself is not among them
pub below_own : (m : Groups) (p : Path) (x : Attr) → IsClosed m → fin.get m p ≡ None → descendant_count (fin.insert m p x) p ≡ 0
below_own m p x closed absent =
    let made = below_made m p x p absent in
    let no : ◌≡◌ {A = ℕ} (cond (strictly_below p p) 1 0) 0 = ap (λ b. cond b 1 0) (not_itself p) in
    let none = none_below m p closed absent in
    omega (arith, made, no, none)
