-- The turns that were looked at, place by place, and the first of them.
use Rattle.std.proofs.Common.{◌≡◌, ℕ, zero, suc, ◌+◌, ◌<◌, ◌≤◌, Bool, true, false, ltb, List, [], ◌∷◌, length, get_or, refl, sym, subst, arith, ltb-true, ltb-false, Option, Some, None}
use Rattle.std.specs.Prelude.{slice_set, IfSome}
use Rattle.std.proofs.lemmas.List.{get_or-set_other}
use Rattle.std.proofs.lemmas.Grind.{get_or-set_at}
use Rattle.sessions.specs.Waits.{IsDue, IsNoLater}

-- what is found in front of the place that is set stays, and there is what was set
pub set_next : {X : Type 0} (P : ℕ → X → Type 0) (xs : List X) (n : ℕ) (x d : X) → n < length xs → P n x
    → ((k : ℕ) → k < n → P k (get_or xs k d)) → (k : ℕ) → k < n + 1 → P k (get_or (slice_set xs n x) k d)
set_next {X} P xs n x d inside here before k below =
    by (ltb k n) refl
  where
    by : (b : Bool) → ltb k n ≡ b → P k (get_or (slice_set xs n x) k d)
    by true e =
        let l = ltb-true k n e in
        subst (P k) (sym (get_or-set_other xs n k x d (λ at. absurd (omega (arith, l, at))))) (before k l)
    by false e =
        let l = ltb-false k n e in
        let at : k ≡ n = omega (arith, l, below) in
        subst (P k) (sym (get_or-set_at xs n k x d at inside)) (subst (λ (m : ℕ). P m x) (sym at) here)

-- what stands behind it stays
pub set_behind : {X : Type 0} (xs : List X) (n : ℕ) (x d : X) (k : ℕ) → n + 1 ≤ k → get_or (slice_set xs n x) k d ≡ get_or xs k d
set_behind xs n x d k behind = get_or-set_other xs n k x d (λ at. absurd (omega (arith, behind, at)))

-- what is no later than an earlier turn is no later than a later one
pub no_later_still : (turn first least : Option ℕ) → IsNoLater turn first → IsNoLater first least → IsNoLater turn least
no_later_still None first least one other = tt
no_later_still (Some t) None least one other = absurd one
no_later_still (Some t) (Some n) None one other = absurd other
no_later_still (Some t) (Some n) (Some m) one other = omega (arith, one, other)

-- if the first turn has not come, no other has
pub none_due : (reached first turn : Option ℕ) → IsNoLater turn first → (IsDue reached first → ⊥) → IsDue reached turn → ⊥
none_due reached first None least early due = due
none_due reached None (Some t) least early due = least
none_due None (Some n) (Some t) least early due = early tt
none_due (Some len) (Some n) (Some t) least early due = early (omega (arith, least, due))

-- a lower bound of the noted turn, if any
pub first_below : (turn : Option ℕ) (least : ℕ) → IfSome turn (λ t. least ≤ t) → IsNoLater turn (Some least)
first_below None least below = tt
first_below (Some t) least below = below

-- a turn is noted which the first is no later than
pub first_of_noted : (first : Option ℕ) (turns : List (Option ℕ)) (n : ℕ) (turn : Option ℕ) → IsNoLater turn first
    → ((k : ℕ) → IsNoLater (get_or turns k None) first) → (k : ℕ) → IsNoLater (get_or (slice_set turns n turn) k None) first
first_of_noted first [] n turn here others k = others k
first_of_noted first (t ∷ ts) zero turn here others zero = here
first_of_noted first (t ∷ ts) zero turn here others (suc k) = others (suc k)
first_of_noted first (t ∷ ts) (suc n) turn here others zero = others zero
first_of_noted first (t ∷ ts) (suc n) turn here others (suc k) = first_of_noted first ts n turn here (λ j. others (suc j)) k
