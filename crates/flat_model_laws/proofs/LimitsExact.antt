-- The promises of the limits hold exactly where the commands' own tests say so.
use Rattle.std.proofs.Common.{◌≡◌, ℕ, ◌+◌, ◌<◌, ◌≤◌, Bool, true, false, cond, not, ◌&&◌, ◌↔◌, Option, Some, None, refl, sym, ap, ◌∙◌, arith}
use Rattle.std.proofs.lemmas.Bool.Decides.{nat_tests}
use Rattle.std.specs.Prelude.{option_map}
use Rattle.std.specs.FinMap.{get, insert}
use Rattle.flat_model.specs.Path.{Path, is_root, at_or_below}
use Rattle.flat_model.specs.State.{State, Attr, Limit, Unlimited, At}
use Rattle.flat_model.specs.Counts.{current, has_process, exceeds, asks, is_full, blocked_fork}
use Rattle.flat_model.specs.Command.{Fork, NoProcess, PidInUse, OverPidsMax}
use Rattle.flat_model.specs.Refuse.{refuse}
use Rattle.flat_model.specs.Step.{refusal, after, home_of, raise_peak}
use Rattle.flat_model.specs.Limiting.{IsLimiting, IsWithinPids}
use Rattle.flat_model.proofs.PathLaws.{path_cmp-IsTotalOrder, path_cmp-IsAntisymmetric}
use Rattle.flat_model.proofs.Maps.{get-each}
use Rattle.flat_model.proofs.Limits.{limiting, fork_within, current_forked, asked_no}
use Rattle.flat_model_laws.proofs.NearestLaws.{asks_not, nearest_found}
use Rattle.flat_model.proofs.Limits.{within_by}

past_is : (n m : ℕ) (l : Limit) → l ≡ At m → m < n → exceeds n l ≡ true
past_is n m l e h = ap (exceeds n) e ∙ (let h : m < n = h in grind (arith, nat_tests))

-- a group that would be past its limit is full
full_is : (s : State) (a : Path) (attr : Attr) (m : ℕ) → is_root a ≡ false → get s.groups a ≡ Some attr → attr.limits.pids ≡ At m → m < current s a + 1 → is_full s a ≡ true
full_is s a attr m not_root there limit past =
    ap (λ b. not b && asks (λ attr. exceeds (current s a + 1) attr.limits.pids) (get s.groups a)) not_root
    ∙ ap (asks (λ attr. exceeds (current s a + 1) attr.limits.pids)) there
    ∙ past_is (current s a + 1) m attr.limits.pids limit past

limited : (s : State) (g a : Path) → IsLimiting s g a → blocked_fork s g ≡ Some a
limited s g a l = nearest_found (is_full s) g a l.above (full_is s a l.attr l.most l.not_root l.there l.limit l.past) l.nearest

-- the group that limits a fork is the one that blocks it
pub limiting_is : (s : State) (g a : Path) → IsLimiting s g a ↔ (blocked_fork s g ≡ Some a)
limiting_is s g a = (limited s g a, limiting s g a)

pub one_limiting : (s : State) (g a b : Path) → IsLimiting s g a → IsLimiting s g b → a ≡ b
one_limiting s g a b h k = let e : Some a ≡ Some b = sym (limited s g a h) ∙ limited s g b k in cc

-- ---- within pids.max

exceeds_not : (n : ℕ) (l : Limit) → ((m : ℕ) → l ≡ At m → n ≤ m) → exceeds n l ≡ false
exceeds_not n Unlimited h = refl
exceeds_not n (At m) h = let l : n ≤ m = h m refl in grind (arith, nat_tests)

-- the same by the test of each group above
pub within_is : (s : State) (g : Path) → IsWithinPids s g ↔ ((a : Path) → at_or_below g a ≡ true → is_root a ≡ false → asks (λ attr. exceeds (current s a) attr.limits.pids) (get s.groups a) ≡ false)
within_is s g = (
  λ h a above not_root. asks_not (λ attr. exceeds (current s a) attr.limits.pids) (get s.groups a)
      (λ attr there. exceeds_not (current s a) attr.limits.pids (λ m limit. h a attr m above not_root there limit)),
  λ h a attr m above not_root there limit. within_by (current s a) attr.limits.pids m
      (asked_no (λ attr. exceeds (current s a) attr.limits.pids) (get s.groups a) attr (h a above not_root) there) limit,
)

-- a fork that would leave each group above within its limit is blocked by none
fits : (s : State) (from child : ℕ) → has_process s child ≡ false → IsWithinPids (after s (Fork from child)) (home_of s from) → blocked_fork s (home_of s from) ≡ None
fits s from child free h =
    elim (blocked_fork s (home_of s from)) as (λ o. blocked_fork s (home_of s from) ≡ o → o ≡ None) [
      | None ↦ λ e. refl
      | Some a ↦ λ e.
          let l = limiting s (home_of s from) a e in
          let now : get (after s (Fork from child)).groups a ≡ Some (raise_peak (record s { home = insert s.home child (home_of s from) }) (home_of s from) a l.attr) =
          get-each path_cmp-IsTotalOrder path_cmp-IsAntisymmetric (raise_peak (record s { home = insert s.home child (home_of s from) })
          (home_of s from)) s.groups a
          ∙ ap (option_map (raise_peak (record s { home = insert s.home child (home_of s from) }) (home_of s from) a)) l.there in
          let most = h a (raise_peak (record s { home = insert s.home child (home_of s from) }) (home_of s from) a l.attr) l.most l.above l.not_root now l.limit in
          let past = l.past in
          let one : ◌≡◌ {A = ℕ} (cond (at_or_below (home_of s from) a) 1 0) 1 = ap (λ b. cond b 1 0) l.above in
          let more = current_forked s from child a free in
          absurd (omega (arith, most, past, one, more))
    ] refl

fork_free : (a b : Bool) (x y : ℕ) (o : Option Path) → a ≡ true → b ≡ false → o ≡ None → refuse (not a) (NoProcess x) (refuse b (PidInUse y) (option_map OverPidsMax o)) ≡ None
fork_free true false x y None h k e = refl
fork_free true false x y (Some p) h k e = cc
fork_free true true x y o h k e = cc
fork_free false b x y o h k e = cc

pub accepted_is : (slots : ℕ) (s : State) (from child : ℕ) → has_process s from ≡ true → has_process s child ≡ false
    → (refusal slots s (Fork from child) ≡ None) ↔ IsWithinPids (after s (Fork from child)) (home_of s from)
accepted_is slots s from child has free = (
  fork_within slots s from child,
  λ h. fork_free (has_process s from) (has_process s child) from child (blocked_fork s (home_of s from)) has free (fits s from child free h),
)
