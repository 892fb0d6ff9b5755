-- What stands below a group, in the tree and in a flat state of its groups.
use Rattle.std.proofs.Common.{◌≡◌, ◌↔◌, Bool, true, false, ◌||◌, List, [], ◌∷◌, refl, ap, sym, ◌∙◌, subst}
use Rattle.std.specs.Prelude.{count_by}
use Rattle.std.specs.List.{list_any}
use Rattle.std.specs.Ordering.{nat_cmp}
use Rattle.std.specs.FinMap.{FinMap, keys, contains_key-keys}
use Rattle.flat_model.specs.Path.{Path, same_path, strictly_below}
use Rattle.flat_model.specs.Counts as flat
use Rattle.flat_model.specs.Mapped.{map_values}
use Rattle.flat_model.proofs.PathLaws.{same_path_is, same_path_itself}
use Rattle.flat_model.proofs.MapValues.{keys-map_values}
use Rattle.group_tree.specs.Groups.{Groups, descendant_count, HasBelow}
use Rattle.group_tree.specs.Flat.{group_of, CountsAsFlat}
use Rattle.flat_model.proofs.Booleans.{or_right}

pub same_count : (m : Groups) (home : FinMap nat_cmp Path) (p : Path) → flat.descendant_count (record { groups = map_values group_of m; home = home }) p ≡ descendant_count m p
same_count m home p = ap (λ (ps : List Path). count_by (λ q. strictly_below q p) ps) (keys-map_values group_of m)

-- ---- some key passes a test

pub record Passing (test : Path → Bool) (ps : List Path) : Type 0 where
  pub path : Path
  pub passes : test path ≡ true
  pub among : list_any (same_path path) ps ≡ true

passing : (test : Path → Bool) (ps : List Path) → list_any test ps ≡ true → Passing test ps
passing test [] e = cc
passing test (p ∷ ps) e =
    elim (test p) as (λ b. test p ≡ b → (b || list_any test ps) ≡ true → Passing test (p ∷ ps)) [
      | true ↦ λ t h. record { path = p; passes = t; among = ap (λ b. b || list_any (same_path p) ps) (same_path_itself p) }
      | false ↦ λ t h. let r = passing test ps h in record { path = r.path; passes = r.passes; among = or_right (same_path r.path p) (list_any (same_path r.path) ps) r.among }
    ] refl e

passed : (test : Path → Bool) (q : Path) (ps : List Path) → test q ≡ true → list_any (same_path q) ps ≡ true → list_any test ps ≡ true
passed test q [] t e = cc
passed test q (p ∷ ps) t e =
    elim (same_path q p) as (λ b. same_path q p ≡ b → (b || list_any (same_path q) ps) ≡ true → list_any test (p ∷ ps) ≡ true) [
      | true ↦ λ s h. ap (λ b. b || list_any test ps) (ap test (sym ((same_path_is q p).0 s)) ∙ t)
      | false ↦ λ s h. or_right (test p) (list_any test ps) (passed test q ps t h)
    ] refl e

-- the test for children finds one where there is one
pub any_below_is : (m : Groups) (p : Path) → (list_any (λ q. strictly_below q p) (keys m) ≡ true) ↔ HasBelow m p
any_below_is m p = (
  λ h. let r = passing (λ q. strictly_below q p) (keys m) h in record { path = r.path; below = r.passes; there = contains_key-keys m r.path ∙ r.among },
  λ h. passed (λ q. strictly_below q p) h.path (keys m) h.below (sym (contains_key-keys m h.path) ∙ h.there),
)

pub counts_as_flat : (m : Groups) → CountsAsFlat m
counts_as_flat m = record {
  counts = same_count m;
  below = λ p. subst (λ (ps : List Path). (list_any (λ q. strictly_below q p) ps ≡ true) ↔ HasBelow m p) (sym (keys-map_values group_of m)) (any_below_is m p);
}
