-- The words of a slot: nodes in heap order, then stripes.
use Rattle.std.specs.Prelude.{◌≡◌, ◌≢◌, ℕ, ◌+◌, ◌-◌, ◌*◌, ◌/◌, ◌%◌, ◌<◌, ◌⊎◌, cond, nat_lt}

-- the kind of a word: a node with two children, a node with none, or a stripe
pub data WordKind : Type 0 where
  inner : ℕ → ℕ → WordKind
  leaf : WordKind
  stripe : WordKind

-- the word i, the k-th of its slot, where a slot has w nodes
abbrev pub line_at : ℕ → ℕ → ℕ → WordKind
line_at w k i = cond (nat_lt (k + k + 2) w) (inner (i + k + 1) (i + k + 2)) (cond (nat_lt k w) leaf stripe)

-- the word i, where a slot has s words and the first w of them are nodes
abbrev pub line : ℕ → ℕ → ℕ → WordKind
line w s i = line_at w (i % s) i

abbrev pub parent_at : ℕ → ℕ → ℕ → ℕ
parent_at w k i = cond (nat_lt k w) (i - k + (k - 1) / 2) i

-- the parent's word; a root and a stripe are their own parents
abbrev pub parent : ℕ → ℕ → ℕ → ℕ
parent w s i = parent_at w (i % s) i

-- what the laws require of a shape: the parent of two children is their node, and a word with a parent is a child of it
pub record Family (kind : ℕ → WordKind) (parent : ℕ → ℕ) : Type 0 where
  pub children : (i a b : ℕ) → kind i ≡ inner a b → (parent a ≡ i) × (parent b ≡ i) × (i < a) × (a < b) × (kind a ≢ stripe) × (kind b ≢ stripe)
  pub child : (j : ℕ) → parent j ≢ j → (x : ℕ) × ((kind (parent j) ≡ inner j x) ⊎ (kind (parent j) ≡ inner x j))

-- w nodes, each with two children or none, among the s words of a slot
abbrev pub IsShape : ℕ → ℕ → Type 0
IsShape w s = (w % 2 ≡ 1) × (w < s)

-- the number of leaves, and of stripes, for w nodes
abbrev pub leaves : ℕ → ℕ
leaves w = (w + 1) / 2

-- the words of a node and of a stripe of a slot, if a slot has w nodes and l stripes
abbrev pub node_word : ℕ → ℕ → ℕ → ℕ → ℕ
node_word w l slot node = slot * (w + l) + node

abbrev pub stripe_word : ℕ → ℕ → ℕ → ℕ → ℕ
stripe_word w l slot k = slot * (w + l) + (w + k)

-- the word of a leaf
abbrev pub leaf_word : ℕ → ℕ → ℕ → ℕ → ℕ
leaf_word w l slot k = slot * (w + l) + ((w - 1) / 2 + k)
