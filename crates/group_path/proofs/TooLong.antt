-- An error says what speaks against its opposite: a text that was refused is too long.
use Rattle.std.proofs.Common.{◌≡◌, ◌<◌, ◌≤◌, ℕ, Result, Ok, Err, true, false, MatchResult, IsErr, arith}

pub too_long : {X E : Type 0} (P : X → Type 0) (r : Result X E) (n most : ℕ) → IsErr r → (n ≤ most → false ≡ true) → MatchResult r P (λ _. most < n)
too_long P (Ok x) n most e few = cc
too_long P (Err x) n most e few = let no : n ≤ most → ⊥ = λ l. let e = few l in cc in omega (arith, no)
