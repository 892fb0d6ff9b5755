-- How an event changes a hand, by the number of a word.
use Rattle.std.specs.Prelude.{◌≡◌, ◌≢◌, ℕ, ◌+◌, ◌%◌, ◌^◌}
use Rattle.snzi_core.specs.declared.holding.Holding.{Holding}
use Rattle.snzi_core.specs.declared.holding.Role.TheVariants.{Helper}
use Rattle.snzi_core.specs.Holding.{tokens_at, amount_at, held, main_weight, one_out, one_back}

-- one token more at j, and nothing else
abbrev pub Gains : ℕ → Holding → Holding → Type 0
Gains j h k = (tokens_at j k ≡ tokens_at j h + 1) × ((i : ℕ) → i ≢ j → tokens_at i k ≡ tokens_at i h) × (held k ≡ held h + 1) × (k.amounts ≡ h.amounts) × (k.role ≡ h.role)

-- one token less at j, and nothing else
abbrev pub Loses : ℕ → Holding → Holding → Type 0
Loses j h k = (tokens_at j k + 1 ≡ tokens_at j h) × ((i : ℕ) → i ≢ j → tokens_at i k ≡ tokens_at i h) × (held k + 1 ≡ held h) × (k.amounts ≡ h.amounts) × (k.role ≡ h.role)

-- a token at p becomes one at j, and nothing else
abbrev pub Moves : ℕ → ℕ → Holding → Holding → Type 0
Moves p j h k = (tokens_at j k ≡ tokens_at j h + 1) × (tokens_at p k + 1 ≡ tokens_at p h) × ((i : ℕ) → i ≢ j → i ≢ p → tokens_at i k ≡ tokens_at i h)
    × (held k ≡ held h) × (k.amounts ≡ h.amounts) × (k.role ≡ h.role)

-- n more in the stripe j, modulo 2^64, and nothing else
abbrev pub Raises : ℕ → ℕ → Holding → Holding → Type 0
Raises j n h k = (amount_at j k % 2 ^ 64 ≡ (amount_at j h + n) % 2 ^ 64) × ((i : ℕ) → i ≢ j → amount_at i k ≡ amount_at i h) × (k.tokens ≡ h.tokens) × (k.role ≡ h.role)

-- main h gives some of its tokens to a new helper k and keeps the rest, as main g with one helper more
abbrev pub Parts : Holding → Holding → Holding → Type 0
Parts h g k = ((i : ℕ) → tokens_at i g + tokens_at i k ≡ tokens_at i h) × (g.amounts ≡ h.amounts) × ((i : ℕ) → amount_at i k ≡ 0)
    × (main_weight h.role ≡ 1) × (g.role ≡ one_out h.role) × (k.role ≡ Helper)

-- main h takes what the helper k has, as main g with one helper less
abbrev pub Unites : Holding → Holding → Holding → Type 0
Unites h k g = ((i : ℕ) → tokens_at i g ≡ tokens_at i h + tokens_at i k)
    × ((i : ℕ) → amount_at i g % 2 ^ 64 ≡ (amount_at i h + amount_at i k) % 2 ^ 64) × (main_weight h.role ≡ 1) × (g.role ≡ one_back h.role)
    × (k.role ≡ Helper)
