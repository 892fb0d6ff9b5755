-- Each prefix of a group's path is a group.
use Rattle.std.proofs.Common.{◌≡◌, ℕ, zero, suc, ◌+◌, ◌-◌, ◌≤◌, true, [], ◌∷◌, length, take, IsSome, refl, sym, ap, subst, ◌∙◌, arith}
use Rattle.std.proofs.lemmas.List.{length-take-le}
use Rattle.std.proofs.Math.Seq.{take-length}
use Rattle.std.specs.FinMap.{get}
use Rattle.flat_model.specs.Path.{Path, parent, at_or_below}
use Rattle.flat_model.proofs.PathLaws.{at_or_below_take, at_or_below_length}
use Rattle.group_tree.specs.Groups.{Groups, IsClosed}

take_short : (n : ℕ) (p : Path) → take n (take (suc n) p) ≡ take n p
take_short zero p = refl
take_short (suc n) [] = refl
take_short (suc n) (x ∷ p) = ap (λ (q : Path). x ∷ q) (take_short n p)

parent_take : (p : Path) (n : ℕ) → suc n ≤ length p → parent (take (suc n) p) ≡ take n p
parent_take p n l =
    let len = length-take-le (suc n) p l in
    let k : length (take (suc n) p) - 1 ≡ n = omega (arith, len) in
    ap (λ (m : ℕ). take m (take (suc n) p)) k ∙ take_short n p

-- by going up, one parent after another
front_there : (m : Groups) → IsClosed m → (p : Path) → IsSome (get m p) → (k n : ℕ) → n + k ≡ length p → IsSome (get m (take n p))
front_there m c p h zero n e =
    let l : length p ≡ n = omega arith in
    subst (λ (q : Path). IsSome (get m q)) (sym (take-length p) ∙ ap (λ (x : ℕ). take x p) l) h
front_there m c p h (suc k) n e =
    let up = front_there m c p h k (suc n) (omega arith) in
    subst (λ (q : Path). IsSome (get m q)) (parent_take p n (omega arith)) (c.parents (take (suc n) p) up)

pub prefix_there : (m : Groups) → IsClosed m → (p q : Path) → IsSome (get m p) → at_or_below p q ≡ true → IsSome (get m q)
prefix_there m c p q h below =
    let short = at_or_below_length p q below in
    subst (λ (x : Path). IsSome (get m x)) (sym (at_or_below_take p q below)) (front_there m c p h (length p - length q) (length q) (omega arith))
