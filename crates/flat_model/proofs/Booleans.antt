-- Small facts about truth values and tests of numbers, which proofs of many crates cite.
use Rattle.std.proofs.Common.{◌≡◌, ℕ, ◌<◌, ◌≤◌, ◌&&◌, Bool, true, false, not, cond, nat_lt, T, Some, None, refl, arith, ap, sym, ◌∙◌}
use Rattle.std.proofs.lemmas.Bool.Decides.{nat_tests}
pub use Rattle.std.proofs.lemmas.Bool.{or_right, false_from_ne_true as to_false}

pub apart : (b : Bool) → b ≡ true → b ≡ false → ⊥
apart b t f = cc

pub both_by : (a b : Bool) → (not a && b) ≡ true → (a ≡ false) × (b ≡ true)
both_by true b e = cc
both_by false b e = (refl, e)

pub not_and_false : (a b : Bool) → (not a && b) ≡ false → a ≡ false → b ≡ false
not_and_false a b e n = sym (ap (λ c. not c && b) n) ∙ e

pub first : (a b : Bool) → T (a && b) → T a
first true b p = tt
first false b p = p

pub second : (a b : Bool) → T (a && b) → T b
second true b p = p
second false b p = absurd p

pub both : (a b : Bool) → T (a && b) → T a × T b
both a b p = (first a b p, second a b p)

-- what a search that found something, or nothing, says of the first match
pub place_by : (n m end : ℕ) (t : Bool) → nat_lt n m ≡ t → Some end ≡ cond t (Some n) None → (n < m) × (n ≡ end)
place_by n m end true e h = (grind (arith, nat_tests), cc)
place_by n m end false e h = cc

pub no_place : (n m : ℕ) (t : Bool) → nat_lt n m ≡ t → None ≡ cond t (Some n) None → m ≤ n
no_place n m true e h = cc
no_place n m false e h = grind (arith, nat_tests)
