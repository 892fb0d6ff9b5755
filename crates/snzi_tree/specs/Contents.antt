-- What a hand holds, by slots, leaves and stripes.
use Rattle.std.specs.Prelude.{◌≡◌, ℕ, zero, suc, ◌+◌, ◌-◌, ◌/◌, ◌%◌, ◌^◌, ◌<◌, eqb, cond, nat_eq, nat_lt, List, [], ◌∷◌}
use Rattle.snzi_tokens.specs.declared.token.Token.{Token}
use Rattle.snzi_core.specs.declared.holding.Holding.{Holding}
use Rattle.snzi_core.specs.Holding.{tokens_at, amount_at}
use Rattle.snzi_tokens.specs.Listed.{over_leaves}
use Rattle.snzi_core.specs.Shape.{node_word, stripe_word, leaf_word}

-- the word of a token
abbrev pub token_word : ℕ → ℕ → Token → ℕ
token_word w l t = leaf_word w l t.slot t.leaf

-- how many of the tokens are at the word i
abbrev pub count_at : ℕ → ℕ → ℕ → List Token → ℕ
count_at w l i [] = 0
count_at w l i (t ∷ ts) = cond (nat_eq (token_word w l t) i) 1 0 + count_at w l i ts

abbrev pub AllInRange : ℕ → ℕ → List Token → Type 0
AllInRange g l [] = Unit {0}
AllInRange g l (t ∷ ts) = ((t.slot < g) × (t.leaf < l)) × AllInRange g l ts

-- the hand's tokens at each slot and leaf
abbrev pub content_of : ℕ → ℕ → Holding → ℕ → ℕ → ℕ
content_of w l h s j = cond (nat_lt j l) (tokens_at (leaf_word w l s j) h) 0

-- the hand's tokens at the leaves of a slot
abbrev pub tokens_in : ℕ → ℕ → Holding → ℕ → ℕ
tokens_in w l h s = over_leaves l (content_of w l h s)

-- the hand has no token above a leaf
abbrev pub AtLeaves : ℕ → ℕ → Holding → Type 0
AtLeaves w l h = (s k : ℕ) → k < (w - 1) / 2 → tokens_at (node_word w l s k) h ≡ 0

-- the hand has a token in the slot
abbrev pub HasIn : ℕ → ℕ → ℕ → Holding → Type 0
HasIn w l slot h = (k : ℕ) × (k < w) × (0 < tokens_at (node_word w l slot k) h)

-- the hand's amounts in the first n stripes of the slot, and in all of them
abbrev pub amounts_to : ℕ → ℕ → ℕ → Holding → ℕ → ℕ
amounts_to w l slot h zero = 0
amounts_to w l slot h (suc n) = amounts_to w l slot h n + amount_at (stripe_word w l slot n) h

abbrev pub amount_in : ℕ → ℕ → Holding → ℕ → ℕ
amount_in w l h slot = amounts_to w l slot h l

-- n at the slot, and nothing elsewhere
abbrev pub only_in : ℕ → ℕ → ℕ → ℕ
only_in slot n s = cond (eqb slot s) n 0

-- n more at the slot, modulo 2^64, and nothing elsewhere
abbrev pub AddsIn : ℕ → ℕ → ℕ → ℕ → Holding → Holding → Type 0
AddsIn w l slot n h k = (s : ℕ) → amount_in w l k s % 2 ^ 64 ≡ (amount_in w l h s + only_in slot n s) % 2 ^ 64
