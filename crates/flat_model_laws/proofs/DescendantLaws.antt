-- The descendants of a group are its children and theirs.
use Rattle.std.proofs.Common.{◌≡◌, ℕ, ◌+◌, Bool, true, false, cond, not, ◌&&◌, ◌||◌, List, [], ◌∷◌, length, refl, sym, ap, ◌∙◌, is_some, arith}
use Rattle.std.specs.Prelude.{count_by, sum_by, filter}
use Rattle.std.specs.List.{AllByRecursion, list_any}
use Rattle.std.specs.FinMap.{keys, entries, entries_sorted, get-entries, contains_key-keys}
use Rattle.std.proofs.lemmas.List.Sums.{sum_by-cons}
use Rattle.std.proofs.Math.Bool.{or-true}
use Rattle.flat_model.specs.Path.{Path, at_or_below, strictly_below, same_path, is_root, parent}
use Rattle.flat_model.specs.State.{State}
use Rattle.flat_model.specs.Counts.{is_group, descendant_count, children}
use Rattle.flat_model.specs.WellFormed.{WellFormed}
use Rattle.flat_model.proofs.PathLaws.{path_cmp-IsTotalOrder, path_cmp-IsAntisymmetric, same_path_is, same_path_itself, at_or_below_itself}
use Rattle.flat_model.proofs.Sums.{count_by-cons}
use Rattle.flat_model.proofs.GroupCounts.{once_among, swap_sums, all_homes}

-- what holds of each path that stands among them holds of all
of_members : (P : Path → Type 0) (ks : List Path) → ((q : Path) → list_any (same_path q) ks ≡ true → P q) → AllByRecursion P ks
of_members P [] f = tt
of_members P (k ∷ ks) f = (
  f k (ap (λ b. b || list_any (same_path k) ks) (same_path_itself k)),
  of_members P ks (λ q h. f q (ap (λ b. same_path q k || b) h ∙ or-true (same_path q k))),
)

of_filter : (P : Path → Type 0) (q : Path → Bool) (ks : List Path) → AllByRecursion P ks → AllByRecursion P (filter q ks)
of_filter P q [] h = tt
of_filter P q (k ∷ ks) h = elim (q k) as (λ b. AllByRecursion P (cond b (k ∷ filter q ks) (filter q ks))) [
  | true ↦ (h.0, of_filter P q ks h.1)
  | false ↦ of_filter P q ks h.1
]

keys_are_groups : (s : State) → AllByRecursion (λ h. is_group s h ≡ true) (keys s.groups)
keys_are_groups s = of_members (λ h. is_group s h ≡ true) (keys s.groups) (λ q h. contains_key-keys s.groups q ∙ h)

-- c itself, or strictly below it
one_of_two : (k c : Path) → ◌≡◌ {A = ℕ} (cond (at_or_below k c) 1 0) (cond (same_path k c) 1 0 + cond (strictly_below k c) 1 0)
one_of_two k c = elim (same_path k c) as (λ b. same_path k c ≡ b → ◌≡◌ {A = ℕ} (cond (at_or_below k c) 1 0) (cond b 1 0 + cond (at_or_below k c && not b) 1 0)) [
  | true ↦ λ t.
      let below : at_or_below k c ≡ true = ap (λ (q : Path). at_or_below q c) ((same_path_is k c).0 t) ∙ at_or_below_itself c in
      ap (λ b. cond b 1 0) below ∙ ap (λ b. 1 + cond (b && false) 1 0) (sym below)
  | false ↦ λ t. elim (at_or_below k c) as (λ b. ◌≡◌ {A = ℕ} (cond b 1 0) (0 + cond (b && true) 1 0)) [ true ↦ refl | false ↦ refl ]
] refl

split_count : (c : Path) (ks : List Path) → count_by (λ p. at_or_below p c) ks ≡ count_by (λ p. same_path p c) ks + count_by (λ p. strictly_below p c) ks
split_count c [] = omega arith
split_count c (k ∷ ks) =
    let rest = split_count c ks in
    let one = one_of_two k c in
    let x = count_by-cons (λ p. at_or_below p c) k ks in
    let y = count_by-cons (λ p. same_path p c) k ks in
    let z = count_by-cons (λ p. strictly_below p c) k ks in
    omega (arith, rest, one, x, y, z)

-- a group stands once among the groups
once : (s : State) (c : Path) → is_group s c ≡ true → count_by (λ p. same_path p c) (keys s.groups) ≡ 1
once s c h = once_among path_cmp-IsTotalOrder path_cmp-IsAntisymmetric (λ p. same_path p c) c (λ k t. (same_path_is k c).0 t)
    (same_path_itself c) (entries s.groups) (entries_sorted s.groups) (ap is_some (sym (get-entries s.groups c)) ∙ h)

each_child : (s : State) (cs : List Path) → AllByRecursion (λ c. is_group s c ≡ true) cs → sum_by (λ c. count_by (λ p. at_or_below p c) (keys s.groups)) cs ≡ length cs + sum_by (descendant_count s) cs
each_child s [] h = omega arith
each_child s (c ∷ cs) h =
    let rest = each_child s cs h.1 in
    let two = split_count c (keys s.groups) in
    let own = once s c h.0 in
    let x = sum_by-cons (λ c. count_by (λ p. at_or_below p c) (keys s.groups)) c cs in
    let y = sum_by-cons (descendant_count s) c cs in
    omega (arith, rest, two, own, x, y)

-- the groups below g are its children and what is below these
pub descendants_are : (slots : ℕ) (s : State) → WellFormed slots s → (g : Path) → descendant_count s g ≡ length (children s g) + sum_by (descendant_count s) (children s g)
descendants_are slots s w g =
    let ks = keys s.groups in
    let groups = keys_are_groups s in
    let whole = all_homes slots s w g ks groups in
    let below = swap_sums (children s g) ks in
    let two = split_count g ks in
    let each = each_child s (children s g) (of_filter (λ c. is_group s c ≡ true) (λ p. not (is_root p) && same_path (parent p) g) ks groups) in
    omega (arith, whole, below, two, each)
