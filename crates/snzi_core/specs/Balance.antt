-- The balance between words and hands, and which tokens are present.
use Rattle.std.specs.Prelude.{◌≡◌, ◌≢◌, ℕ, zero, suc, ◌+◌, ◌%◌, ◌^◌, ◌<◌, ◌≤◌, List, [], ◌∷◌, slice_index}
use mathlib.Core.Option.{some}
use lib.ListN.{get_elem?}
use Rattle.snzi_core.specs.declared.holding.Holding.{Holding}
use Rattle.snzi_core.specs.declared.holding.Role.TheVariants.{Spent}
use Rattle.snzi_core.specs.Holding.{tokens_at, amount_at, main_weight, helper_weight, out}
use Rattle.snzi_core.specs.Caps.{token_cap, helper_cap}
use Rattle.snzi_core.specs.Shape.{WordKind, inner, leaf, stripe}

-- the sum over the hands
abbrev pub total : (Holding → ℕ) → List Holding → ℕ
total f [] = 0
total f (h ∷ hs) = f h + total f hs

-- 1 if the number is not zero, else 0
abbrev pub up : ℕ → ℕ
up zero = 0
up (suc n) = 1

-- the balance of one word: a node is the hands' tokens there plus its children that are not zero; a stripe is the hands' amounts
abbrev pub Stands : List ℕ → List Holding → ℕ → WordKind → Type 0
Stands words hands i (inner a b) = slice_index words i ≡ total (tokens_at i) hands + (up (slice_index words a) + up (slice_index words b))
Stands words hands i leaf = slice_index words i ≡ total (tokens_at i) hands
Stands words hands i stripe = slice_index words i ≡ total (amount_at i) hands % 2 ^ 64

-- every word is in balance
abbrev pub Balanced : (ℕ → WordKind) → List ℕ → List Holding → Type 0
Balanced kind words hands = (i : ℕ) → Stands words hands i (kind i)

abbrev pub mains : Holding → ℕ
mains h = main_weight h.role

abbrev pub helpers : Holding → ℕ
helpers h = helper_weight h.role

abbrev pub outs : Holding → ℕ
outs h = out h.role

-- P holds of each hand
abbrev pub Each : (Holding → Type 0) → List Holding → Type 0
Each P [] = Unit {0}
Each P (h ∷ hs) = P h × Each P hs

-- a hand has at most the cap of tokens at each node; a spent one holds nothing
abbrev pub Within : Holding → Type 0
Within h = ((i : ℕ) → tokens_at i h ≤ token_cap) × (h.role ≡ Spent → (h.tokens ≡ []) × (h.amounts ≡ []))

-- one main hand, which counts its helpers, and every hand within its cap
abbrev pub Mustered : List Holding → Type 0
Mustered hands = (total mains hands ≡ 1) × (total outs hands ≡ total helpers hands) × (total helpers hands ≤ helper_cap) × Each Within hands

-- the balance and the caps
abbrev pub Ruled : (ℕ → WordKind) → List ℕ → List Holding → Type 0
Ruled kind words hands = Balanced kind words hands × Mustered hands

-- j is i or is below it
pub data AtOrBelow (parent : ℕ → ℕ) (i : ℕ) : ℕ → Type 0 where
  here : AtOrBelow parent i i
  below : (j : ℕ) → parent j ≢ j → AtOrBelow parent i (parent j) → AtOrBelow parent i j

-- the hand has a token at i or below it
abbrev pub Covers : (ℕ → ℕ) → Holding → ℕ → Type 0
Covers parent h i = (j : ℕ) × AtOrBelow parent i j × (0 < slice_index h.tokens j)

-- some hand has a token at i or below it
abbrev pub Present : (ℕ → ℕ) → List Holding → ℕ → Type 0
Present parent hands i = (id : ℕ) × (h : Holding) × (get_elem? hands id ≡ some h) × Covers parent h i
