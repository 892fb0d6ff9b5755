-- The laws of words and hands. Each kind of event keeps the balance and the caps; under these, a word says which tokens are present.
-- They hold for any list of hands and any shape, and require nothing of a word beyond what they name.
use Rattle.std.specs.Prelude.{◌≡◌, ◌≢◌, ◌↔◌, ◌⊎◌, ℕ, ◌+◌, ◌-◌, ◌%◌, ◌^◌, ◌<◌, ◌≤◌, List, [], ◌∷◌, ◌++◌, length, slice_index, slice_set as set}
use mathlib.Core.Option.{some}
use lib.ListN.{get_elem?}
use Rattle.snzi_core.specs.declared.event.Event.{Event}
use Rattle.snzi_core.specs.declared.holding.Holding.{Holding}
use Rattle.snzi_core.specs.declared.holding.Role.TheVariants.{Main, Spent}
use Rattle.snzi_core.specs.Holding.{tokens_at, amount_at, empty, out}
use Rattle.snzi_core.specs.Changes.{Gains, Loses, Moves, Raises, Parts, Unites}
use Rattle.snzi_core.specs.Caps.{token_cap, helper_cap}
use Rattle.snzi_core.specs.Shape.{WordKind, stripe, line, parent, IsShape}
use Rattle.snzi_core.specs.Balance.{Balanced, Mustered, Ruled, Present, Covers}
use Rattle.snzi_core.specs.CoreState.{CoreState, start, IsRuled}
use Rattle.snzi_core.specs.Effect.{Runs}

-- a law of one step, for each shape of w nodes among s words, and each hand id with h that acts on the word j
abbrev pub OfAHand : ((w s : ℕ) (words : List ℕ) (hands : List Holding) (id j : ℕ) (h : Holding) → Type 0) → Type 0
OfAHand law = (w s : ℕ) (words : List ℕ) (hands : List Holding) (id j : ℕ) (h : Holding) → IsShape w s → get_elem? hands id ≡ some h → j < length words → law w s words hands id j h

-- with x at the word j and the hand id as g, the balance is kept, and the caps too if there is room
abbrev pub Keeps : (ℕ → WordKind) → List ℕ → List Holding → ℕ → ℕ → Holding → ℕ → Holding → Type 0 → Type 0
Keeps kind words hands id j h x g room =
    (Balanced kind words hands → Balanced kind (set words j x) (set hands id g)) × (Mustered hands → h.role ≢ Spent → room → Mustered (set hands id g))

abbrev pub Room : ℕ → Holding → Type 0
Room j h = tokens_at j h < token_cap

-- a load writes the number that it read
abbrev pub LoadKeeps : Type 0
LoadKeeps = OfAHand (λ w s words hands id j h. Keeps (line w s) words hands id j h (slice_index words j) h (Unit {0}))

-- one more at a node that is not zero, and a token there
abbrev pub FastAddKeeps : Type 0
FastAddKeeps = OfAHand (λ w s words hands id j h. line w s j ≢ stripe → 0 < slice_index words j → (g : Holding) → Gains j h g
    → Keeps (line w s) words hands id j h (slice_index words j + 1) g (Room j h))

-- one more at a root, and a token there
abbrev pub RootAddKeeps : Type 0
RootAddKeeps = OfAHand (λ w s words hands id j h. line w s j ≢ stripe → parent w s j ≡ j → (g : Holding) → Gains j h g → Keeps (line w s) words hands id j h (slice_index words j + 1) g (Room j h))

-- one more at a node below a root: if the node was zero, the token at the parent is used up
abbrev pub ChildAddKeeps : Type 0
ChildAddKeeps = OfAHand (λ w s words hands id j h. line w s j ≢ stripe → parent w s j ≢ j → (g : Holding)
    → ((slice_index words j ≡ 0) × Moves (parent w s j) j h g) ⊎ ((slice_index words j ≢ 0) × Gains j h g)
    → Keeps (line w s) words hands id j h (slice_index words j + 1) g (Room j h))

-- one less at a node: if a node below a root becomes zero, the hand gets a token at the parent, which needs room there
abbrev pub LeaveKeeps : Type 0
LeaveKeeps = OfAHand (λ w s words hands id j h. line w s j ≢ stripe → (g : Holding)
    → ((slice_index words j ≡ 1) × (parent w s j ≢ j) × Moves j (parent w s j) h g) ⊎ ((parent w s j ≢ j → slice_index words j ≢ 1) × Loses j h g)
    → Keeps (line w s) words hands id j h (slice_index words j - 1) g (slice_index words j ≡ 1 → parent w s j ≢ j → Room (parent w s j) h))

-- n more in a stripe, modulo 2^64, counted for the hand
abbrev pub StripeAddKeeps : Type 0
StripeAddKeeps = OfAHand (λ w s words hands id j h. line w s j ≡ stripe → (n : ℕ) (g : Holding) → Raises j n h g
    → Keeps (line w s) words hands id j h ((slice_index words j + n) % 2 ^ 64) g (Unit {0}))

-- main gives a share to a new hand; no word changes
abbrev pub SplitKeeps : Type 0
SplitKeeps = (w s : ℕ) (words : List ℕ) (hands : List Holding) (id : ℕ) (h g helper : Holding) → IsShape w s → get_elem? hands id ≡ some h → Parts h g helper
    → (Balanced (line w s) words hands → Balanced (line w s) words (set hands id g ++ helper ∷ [])) × (Mustered hands → out h.role < helper_cap → Mustered (set hands id g ++ helper ∷ []))

-- main takes all that a helper has, which is then spent; no word changes
abbrev pub JoinKeeps : Type 0
JoinKeeps = (w s : ℕ) (words : List ℕ) (hands : List Holding) (id other : ℕ) (h helper g : Holding) → IsShape w s → get_elem? hands id ≡ some h
    → get_elem? (set hands id g) other ≡ some helper → Unites h helper g
    → (Balanced (line w s) words hands → Balanced (line w s) words (set (set hands id g) other (empty Spent)))
    × (Mustered hands → ((i : ℕ) → tokens_at i g ≤ token_cap) → Mustered (set (set hands id g) other (empty Spent)))

-- under the balance, a node's word is positive exactly if some hand has a token at the node or below it
abbrev pub TellsPresence : Type 0
TellsPresence = (w s : ℕ) (words : List ℕ) (hands : List Holding) (j : ℕ) → IsShape w s → Balanced (line w s) words hands → line w s j ≢ stripe → 0 < slice_index words j ↔ Present (parent w s) hands j

-- main with no helper out knows each stripe, and which nodes are positive
abbrev pub MainKnows : Type 0
MainKnows = (w s : ℕ) (words : List ℕ) (hands : List Holding) (id j : ℕ) (h : Holding) → IsShape w s → Ruled (line w s) words hands → get_elem? hands id ≡ some h → h.role ≡ Main 0
    → (line w s j ≡ stripe → slice_index words j ≡ amount_at j h % 2 ^ 64) × (line w s j ≢ stripe → 0 < slice_index words j ↔ Covers (parent w s) h j)

-- a node's word under the rule is far below the greatest u64
abbrev pub WordsAreSmall : Type 0
WordsAreSmall = (kind : ℕ → WordKind) (words : List ℕ) (hands : List Holding) (j : ℕ) → kind j ≢ stripe → Ruled kind words hands → slice_index words j < 2 ^ 64 - 1

-- a new core, and each core after a list of lawful events, is in balance and within the caps
abbrev pub ListsKeep : Type 0
ListsKeep = (slots nodes : ℕ) (events : List Event) (k : CoreState) → (nodes ≡ 1) ⊎ (nodes ≡ 3) ⊎ (nodes ≡ 7) ⊎ (nodes ≡ 15) → Runs (start slots nodes) events k → IsRuled k
