-- Listed tokens, counted at each slot and leaf.
use Rattle.std.specs.Prelude.{ℕ, zero, suc, ◌+◌, ◌<◌, ◌&&◌, eqb, cond, List}
use Rattle.std.specs.List.{sum_by, All}
use Rattle.snzi_tokens.specs.declared.token.Token.{Token}

-- one at (slot, leaf), and nothing elsewhere
abbrev pub one_at : ℕ → ℕ → ℕ → ℕ → ℕ
one_at slot leaf s j = cond (eqb slot s && eqb leaf j) 1 0

-- how many of the tokens are at each slot and leaf
abbrev pub listed_at : List Token → ℕ → ℕ → ℕ
listed_at tokens s j = sum_by (λ t. one_at t.slot t.leaf s j) tokens

-- each token is at a slot and a leaf below these numbers
abbrev pub IsWithin : ℕ → ℕ → List Token → Type 0
IsWithin slots leaves tokens = All (λ t. (t.slot < slots) × (t.leaf < leaves)) tokens

-- the number at a slot: the sum over the leaves below `leaves`
abbrev pub over_leaves : ℕ → (ℕ → ℕ) → ℕ
over_leaves zero at = 0
over_leaves (suc n) at = over_leaves n at + at n
