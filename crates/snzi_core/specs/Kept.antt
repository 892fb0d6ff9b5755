-- The invariant of a core.
use Rattle.std.specs.Prelude.{◌≡◌, ℕ, ◌%◌, ◌<◌, ◌^◌, length, true}
use Rattle.snzi_core.specs.declared.holding.Holding.{Holding}
use Rattle.snzi_core.specs.Holding.{main_weight}
use Rattle.snzi_core.specs.Balance.{Each}
use Rattle.snzi_core.specs.CoreState.{CoreState, hand_of, size, IsRuled}
use Rattle.snzi_core.specs.Lawful.{lives}

-- a live hand has an entry for each of n words
abbrev pub HasTables : ℕ → Holding → Type 0
HasTables n h = lives h.role ≡ true → (length h.tokens ≡ n) × (length h.amounts ≡ n)

-- main is hand 0, and the rule holds
pub record IsCore (k : CoreState) : Type 0 where
  pub odd : k.nodes % 2 ≡ 1
  pub words : length k.words ≡ size k.slots k.nodes
  pub main : main_weight (hand_of k 0).role ≡ 1
  pub made : length k.hands < 2 ^ 32
  pub tables : Each (HasTables (length k.words)) k.hands
  pub rule : IsRuled k
