-- What the last load of a board says: the run of the core that led to it.
use Rattle.std.specs.Prelude.{◌≡◌, ◌≢◌, ◌↔◌, ℕ, ◌+◌, ◌%◌, ◌^◌, ◌<◌, List, length, slice_index}
use Rattle.atomic_table.specs.Table.{Step}
use Rattle.snzi_core.specs.declared.event.Event.{Event}
use Rattle.snzi_core.specs.declared.holding.Holding.{Holding}
use Rattle.snzi_core.specs.declared.holding.Role.TheVariants.{Main, Spent}
use Rattle.snzi_core.specs.Holding.{amount_at}
use Rattle.snzi_core.specs.Shape.{stripe, line, parent}
use Rattle.snzi_core.specs.Balance.{Covers}
use Rattle.snzi_core.specs.CoreState.{CoreState as Core, hand_of, start}
use Rattle.snzi_tree.specs.BoardEvents.{Comes, AlikeHands}
use Rattle.snzi_tree.specs.Tallies.{Seated, events_in}

-- in the core main holds what h holds, and every other hand is spent
abbrev pub IsMainAlone : Core → Holding → Type 0
IsMainAlone k h = AlikeHands (hand_of k 0) h × ((id : ℕ) → (hand_of k (id + 1)).role ≡ Spent)

-- each stripe of the core is h's amount there, and a node is positive exactly if h has a token at the node or below it
abbrev pub WordsTell : ℕ → ℕ → Core → Holding → Type 0
WordsTell w l k h = (j : ℕ) → (line w (w + l) j ≡ stripe → slice_index k.words j ≡ amount_at j h % 2 ^ 64) × (line w (w + l) j ≢ stripe → 0 < slice_index k.words j ↔ Covers (parent w (w + l)) h j)

-- n events, each lawful at its turn, lead from a new core to one in which main alone holds what h holds, and whose words agree with h
abbrev pub HasEnded : ℕ → ℕ → ℕ → ℕ → Holding → Type 0
HasEnded g w l n h = (events : List Event) × (k : Core) × Comes (start g w) events k × (length events ≡ n) × IsMainAlone k h × WordsTell w l k h

-- a load of any word, by main with no helper out: main learns the run that the board has made
abbrev pub ended : ℕ → ℕ → ℕ → Step (Unit {0}) → Seated → ℕ → Seated → Type 0
ended g w l st m r m' = (m'.0 ≡ m.0) × (m'.1 ≡ m.1) × (m.0.view.holding.role ≡ Main 0 → HasEnded g w l (events_in m.0) m.0.view.holding)
