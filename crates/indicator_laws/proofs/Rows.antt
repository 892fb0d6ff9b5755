-- The rows of a whole tree: its nodes stand equally deep, and each row costs an arrival more steps.
use Rattle.std.proofs.Common.{◌≡◌, ℕ, zero, suc, ◌+◌, ◌-◌, ◌*◌, ◌/◌, ◌^◌, ◌<◌, ◌≤◌, refl, ap, ◌∙◌, subst, arith}
use Rattle.std.proofs.Math.Nat.{pow-suc, mul-suc, suc-mul}
use Rattle.std.proofs.lemmas.Nat.{pow_pos}
use Rattle.snzi_tree.specs.Depths.{halved, depth, leaf_depth, triangle, arrive_steps, depart_steps}
use Rattle.snzi_tree.proofs.NodePaths.{depth_up}

pub one_more : (n : ℕ) → suc n ≡ n + 1
one_more n = omega arith

-- the row d of a tree has the nodes from 2^d - 1 to 2^(d + 1) - 2
row_deep : (d k : ℕ) → 2 ^ d ≤ k + 1 → k + 1 < 2 ^ suc d → depth k ≡ d
row_deep zero k low high = let two : 2 ^ suc zero ≡ 2 = refl in let root : k ≡ 0 = omega (arith, high, two) in ap depth root
row_deep (suc d) k low high =
    let a = pow-suc 2 d in
    let b = pow-suc 2 (suc d) in
    let p = pow_pos d in
    depth_up k (omega (arith, a, p, low)) ∙ ap suc (row_deep d (halved k) (omega (arith, a, p, low)) (omega (arith, a, b, p, high)))

pub leaf_deep : (d leaf : ℕ) → leaf < 2 ^ d → leaf_depth (2 ^ (d + 1) - 1) leaf ≡ d
leaf_deep d leaf low =
    let a = pow-suc 2 d in
    let b : 2 ^ (d + 1) ≡ 2 ^ d * 2 = subst (λ (n : ℕ). 2 ^ n ≡ 2 ^ d * 2) (one_more d) a in
    let p = pow_pos d in
    row_deep d ((2 ^ (d + 1) - 1 - 1) / 2 + leaf) (omega (arith, b, p)) (omega (arith, a, b, p, low))

by_next : (n : ℕ) → n * (n + 1) ≡ n * n + n
by_next n = subst (λ (m : ℕ). n * m ≡ n * n + n) (one_more n) (mul-suc n n)

longer : (t d dd a b : ℕ) → 2 * t ≡ a → a ≡ dd + d → b ≡ dd + d + suc d + suc d → 2 * (t + (d + 1)) ≡ b
longer t d dd a b e f g = omega (arith, e, f, g)

-- twice the sum of the numbers up to d
triangle_twice : (d : ℕ) → 2 * triangle d ≡ d * (d + 1)
triangle_twice zero = refl
triangle_twice (suc d) =
    longer (triangle d) d (d * d) (d * (d + 1)) (suc d * (suc d + 1)) (triangle_twice d) (by_next d)
    (by_next (suc d) ∙ ap (λ (n : ℕ). n + suc d) (suc-mul d (suc d) ∙ ap (λ (n : ℕ). n + suc d) (mul-suc d d)))

doubled : (t d q : ℕ) → 2 * t ≡ q → 2 * (1 + 3 * d + t) ≡ 2 + 6 * d + q
doubled t d q e = omega (arith, e)

pub arrive_bound : (d : ℕ) → 2 * (1 + 3 * d + triangle d) ≡ 2 + 6 * d + d * (d + 1)
arrive_bound d = doubled (triangle d) d (d * (d + 1)) (triangle_twice d)

pub triangle_next : (d : ℕ) → triangle (d + 1) ≡ triangle d + (d + 1)
triangle_next d = subst (λ (n : ℕ). triangle n ≡ triangle d + (d + 1)) (one_more d) refl

-- what the depth of a leaf says of steps
pub steps_at : (w leaf d : ℕ) → leaf_depth w leaf ≡ d → (leaf_depth w leaf ≡ d) × (arrive_steps (leaf_depth w leaf) ≡ arrive_steps d) × (depart_steps (leaf_depth w leaf) ≡ depart_steps d)
steps_at w leaf d e = (e, ap (λ (n : ℕ). arrive_steps n) e, ap (λ (n : ℕ). depart_steps n) e)
