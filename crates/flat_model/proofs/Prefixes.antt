-- The paths on the way from the root to a group, and on the way back up.
use Rattle.std.proofs.Common.{◌≡◌, ℕ, zero, suc, ◌+◌, ◌-◌, ◌<◌, ◌≤◌, [], ◌∷◌, length, get_or, take, refl, ap, ◌∙◌, arith}
use Rattle.std.proofs.lemmas.List.{get_or-map, get_or-reverse, length-map, length-reverse}
use Rattle.flat_model.specs.Path.{Path, prefixes, upward}

pub length-prefixes : (p : Path) → length (prefixes p) ≡ length p + 1
length-prefixes [] = refl
length-prefixes (n ∷ p) = let e = length-map (prefixes p) (λ (q : Path). n ∷ q) in let h = length-prefixes p in omega (arith, e, h)

-- the one of k names
prefix_at : (p : Path) (k : ℕ) (d : Path) → k ≤ length p → get_or (prefixes p) k d ≡ take k p
prefix_at [] zero d h = refl
prefix_at [] (suc k) d h = absurd (omega arith)
prefix_at (n ∷ p) zero d h = refl
prefix_at (n ∷ p) (suc k) d h =
    let size = length-prefixes p in
    let low : k ≤ length p = omega arith in
    let inside : k < length (prefixes p) = omega (arith, size) in
    get_or-map (λ (q : Path). n ∷ q) (prefixes p) k [] d inside ∙ ap (λ (q : Path). n ∷ q) (prefix_at p k [] low)

pub length-upward : (p : Path) → length (upward p) ≡ length p + 1
length-upward p = length-reverse (prefixes p) ∙ length-prefixes p

-- the one of k names fewer than p
pub upward_at : (p : Path) (k : ℕ) (d : Path) → k ≤ length p → get_or (upward p) k d ≡ take (length p - k) p
upward_at p k d h =
    let size = length-prefixes p in
    let inside : k < length (prefixes p) = omega (arith, size) in
    let at : length (prefixes p) - 1 - k ≡ length p - k = omega (arith, size) in
    let low : length p - k ≤ length p = omega arith in
    get_or-reverse (prefixes p) k d inside ∙ ap (λ n. get_or (prefixes p) n d) at ∙ prefix_at p (length p - k) d low
