-- A new group, and the one at the start.
use Rattle.std.proofs.Common.{◌≡◌, ◌≢◌, ℕ, true, false, cond, [], ◌↔◌, Some, refl, sym, ap, ◌∙◌}
use Rattle.std.specs.Ordering.{nat_cmp, eq_by_cmp}
use Rattle.std.specs.Cmp.{nat_cmp_total}
use Rattle.std.specs.FinMap.{get, empty, nat_cmp-IsAntisymmetric, get-insert, get-empty}
use Rattle.std.proofs.lemmas.Bool.{false_from_ne_true}
use Rattle.flat_model.specs.Path.{Path, path_cmp}
use Rattle.flat_model.specs.State.{State, start, fresh}
use Rattle.flat_model.specs.Counts.{is_group}
use Rattle.flat_model.specs.Command.{MakeGroup}
use Rattle.flat_model.specs.Step.{after}
use Rattle.flat_model.proofs.PathLaws.{path_cmp-IsTotalOrder, path_cmp-IsAntisymmetric}
use Rattle.flat_model.proofs.Maps.{get-own, key_of}
use Rattle.flat_model.proofs.Reachable.{only_root, some_attr}

pub root_bare : get start.groups [] ≡ Some fresh
root_bare = get-own path_cmp-IsTotalOrder path_cmp-IsAntisymmetric (empty {R = path_cmp}) [] fresh

pub root_alone : (p : Path) → is_group start p ≡ true → p ≡ []
root_alone p h = let a = some_attr (get start.groups p) h in (only_root p a.0 a.1).0

one_is_there : get start.home 1 ≡ Some []
one_is_there = get-own nat_cmp_total nat_cmp-IsAntisymmetric (empty {R = nat_cmp}) 1 []

only_one : (pid : ℕ) (p : Path) → get start.home pid ≡ Some p → (pid ≡ 1) × (p ≡ [])
only_one pid p h =
    elim (eq_by_cmp nat_cmp pid 1) as (λ b. eq_by_cmp nat_cmp pid 1 ≡ b → cond b (Some []) (get (empty {R = nat_cmp}) pid) ≡ Some p → (pid ≡ 1) × (p ≡ [])) [
      | true ↦ λ t e. (key_of nat_cmp-IsAntisymmetric pid 1 t, (let same : [] ≡ p = cc in sym same))
      | false ↦ λ t e. let n = get-empty {X = Path} nat_cmp pid in cc
    ] refl (sym (get-insert nat_cmp_total (empty {R = nat_cmp}) 1 [] pid) ∙ h)

pub first_process : (pid : ℕ) (p : Path) → (get start.home pid ≡ Some p) ↔ ((pid ≡ 1) × (p ≡ []))
first_process pid p = (only_one pid p, λ h. ap (get start.home) h.0 ∙ one_is_there ∙ ap (λ (q : Path). Some q) (sym h.1))

pub made_bare : (s : State) (p : Path) → get (after s (MakeGroup p)).groups p ≡ Some fresh
made_bare s p = get-own path_cmp-IsTotalOrder path_cmp-IsAntisymmetric s.groups p fresh

pub made_alone : (s : State) (p q : Path) → q ≢ p → get (after s (MakeGroup p)).groups q ≡ get s.groups q
made_alone s p q n =
    get-insert path_cmp-IsTotalOrder s.groups p fresh q
    ∙ ap (λ b. cond b (Some fresh) (get s.groups q)) (false_from_ne_true (eq_by_cmp path_cmp q p) (λ t. n (key_of path_cmp-IsAntisymmetric q p t)))
