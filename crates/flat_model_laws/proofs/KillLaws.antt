-- A kill leaves nobody in the group and below it, and everybody else where they are.
use Rattle.std.proofs.Common.{◌≡◌, ◌↔◌, ℕ, true, false, cond, not, Option, Some, None, refl, sym, ap, ◌∙◌}
use lib.Dec.{T}
use Rattle.std.specs.Ordering.{nat_cmp}
use Rattle.std.specs.FinMap.{find, get, get-entries, get-retain_keys, entries_sorted, is_sorted, retain_keys, nat_cmp-IsAntisymmetric}
use Rattle.std.proofs.lemmas.Bool.{false_from_ne_true}
use Rattle.flat_model.specs.Path.{Path, at_or_below}
use Rattle.flat_model.specs.State.{State}
use Rattle.flat_model.specs.Counts.{populated}
use Rattle.flat_model.specs.Command.{Kill}
use Rattle.flat_model.specs.Inverse.{lost}
use Rattle.flat_model.specs.Step.{after, lives_in, is_within}
use Rattle.flat_model.proofs.GroupCounts.{populated_is}

-- the home of a process after a kill
home_killed : (s : State) (g : Path) (pid : ℕ) → get (after s (Kill g)).home pid ≡ cond (not (lives_in s g pid)) (get s.home pid) None
home_killed s g pid = get-retain_keys s.home (λ k. not (lives_in s g k)) pid (λ x t. ap (λ k. not (lives_in s g k)) (sym (nat_cmp-IsAntisymmetric pid x t)))

left_is : (g : Path) (o : Option Path) (at : Path) → cond (not (is_within g o)) o None ≡ Some at → at_or_below at g ≡ false
left_is g None at e = cc
left_is g (Some p) at e =
    elim (at_or_below p g) as (λ b. at_or_below p g ≡ b → cond (not b) (Some p) None ≡ Some at → at_or_below at g ≡ false) [
      | true ↦ λ t is. cc
      | false ↦ λ t is. let same : p ≡ at = cc in ap (λ (q : Path). at_or_below q g) (sym same) ∙ t
    ] refl e

pub nobody_left : (s : State) (g : Path) → populated (after s (Kill g)) g ≡ false
nobody_left s g = false_from_ne_true (populated (after s (Kill g)) g) (λ e.
    let i = (populated_is (after s (Kill g)) g).0 e in
    let gone = left_is g (get s.home i.pid) i.at (sym (home_killed s g i.pid) ∙ i.home) in
    let below = i.below in cc)

pub others_stay : (s : State) (g : Path) (pid : ℕ) (p : Path) → get s.home pid ≡ Some p → at_or_below p g ≡ false → get (after s (Kill g)).home pid ≡ Some p
others_stay s g pid p h away = home_killed s g pid ∙ ap (λ o. cond (not (is_within g o)) o None) h ∙ ap (λ b. cond (not b) (Some p) None) away

-- ---- the processes that a kill takes

found_lost : (s : State) (g : Path) (pid : ℕ) → find nat_cmp pid (lost s g) ≡ cond (lives_in s g pid) (get s.home pid) None
found_lost s g pid =
    sym (get-entries (retain_keys s.home (lives_in s g)) pid)
    ∙ get-retain_keys s.home (lives_in s g) pid (λ x t. ap (lives_in s g) (sym (nat_cmp-IsAntisymmetric pid x t)))

taken_is : (g : Path) (o : Option Path) (p : Path) → cond (is_within g o) o None ≡ Some p → (o ≡ Some p) × (at_or_below p g ≡ true)
taken_is g None p e = let no : None ≡ Some p = e in cc
taken_is g (Some q) p e =
    elim (at_or_below q g) as (λ b. at_or_below q g ≡ b → cond b (Some q) None ≡ Some p → (Some q ≡ Some p) × (at_or_below p g ≡ true)) [
      | true ↦ λ t is. (is, let same : q ≡ p = cc in ap (λ (r : Path). at_or_below r g) (sym same) ∙ t)
      | false ↦ λ t is. cc
    ] refl e

pub lost_are : (s : State) (g : Path) (pid : ℕ) (p : Path) → (find nat_cmp pid (lost s g) ≡ Some p) ↔ ((get s.home pid ≡ Some p) × (at_or_below p g ≡ true))
lost_are s g pid p = (
  λ e. taken_is g (get s.home pid) p (sym (found_lost s g pid) ∙ e),
  λ h. found_lost s g pid ∙ ap (λ o. cond (is_within g o) o None) h.0 ∙ ap (λ b. cond b (Some p) None) h.1,
)

pub lost_ascend : (s : State) (g : Path) → T (is_sorted nat_cmp (lost s g))
lost_ascend s g = entries_sorted (retain_keys s.home (lives_in s g))
