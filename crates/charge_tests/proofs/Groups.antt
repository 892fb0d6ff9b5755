-- How many groups there are.
use Rattle.std.proofs.Common.{◌≡◌, ℕ, ◌+◌, Bool, true, false, cond, not, List, [], ◌∷◌, length, refl, sym, ap, ◌∙◌, is_some, arith}
use Rattle.std.specs.Prelude.{count_by}
use Rattle.std.specs.FinMap.{len, keys, entries, entries_sorted, get-entries, len-entries}
use Rattle.std.proofs.lemmas.List.{length-map}
use Rattle.flat_model.specs.Path.{Path, strictly_below, same_path}
use Rattle.flat_model.specs.State.{State}
use Rattle.flat_model.specs.Counts.{is_group, descendant_count}
use Rattle.flat_model.proofs.PathLaws.{path_cmp-IsTotalOrder, path_cmp-IsAntisymmetric, same_path_is, same_path_itself}
use Rattle.flat_model.proofs.Sums.{count_by-cons}
use Rattle.flat_model.proofs.GroupCounts.{once_among}

one_of_two : (b : Bool) → ◌≡◌ {A = ℕ} (cond b 1 0 + cond (not b) 1 0) 1
one_of_two true = refl
one_of_two false = refl

-- a path is the root or below it
root_or_below : (ps : List Path) → length ps ≡ count_by (λ p. same_path p []) ps + count_by (λ p. strictly_below p []) ps
root_or_below [] = omega arith
root_or_below (p ∷ ps) =
    let rest = root_or_below ps in
    let one = one_of_two (same_path p []) in
    let x = count_by-cons (λ p. same_path p []) p ps in
    let y = count_by-cons (λ p. strictly_below p []) p ps in
    omega (arith, rest, one, x, y)

-- the root, and the groups below it
pub len-groups : (s : State) → is_group s [] ≡ true → len s.groups ≡ descendant_count s [] + 1
len-groups s h =
    let once = once_among path_cmp-IsTotalOrder path_cmp-IsAntisymmetric (λ p. same_path p []) [] (λ k t. (same_path_is k []).0 t)
    (same_path_itself []) (entries s.groups) (entries_sorted s.groups) (ap is_some (sym (get-entries s.groups [])) ∙ h) in
    let all = root_or_below (keys s.groups) in
    let long = length-map (entries s.groups) (λ e. e.0) in
    let size = len-entries s.groups in
    omega (arith, once, all, long, size)
