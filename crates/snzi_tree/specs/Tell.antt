-- What each kind of step tells its hand.
use Rattle.std.specs.Prelude.{◌≡◌, ◌≢◌, ℕ, ◌%◌, ◌^◌, ◌<◌, []}
use Rattle.atomic_table.specs.Table.{Step}
use Rattle.snzi_core.specs.declared.holding.Role.TheVariants.{Main}
use Rattle.snzi_core.specs.Holding.{gain, lose, raise, amount_at}
use Rattle.snzi_core.specs.Shape.{parent}
use Rattle.snzi_core.specs.Balance.{Covers}
use Rattle.snzi_tree.specs.View.{with_holding, planned, Knows}

-- the step, what the hand knew, the number that the word had, and what the hand knows afterwards
abbrev Tells : Type 1
Tells = Step (Unit {0}) → Knows → ℕ → Knows → Type 0

-- a load of a node
abbrev pub looked : Tells
looked st m r m' = (m'.0 ≡ m.0) × (r < 18446744073709551615) × (m'.1 ≡ m.1)

-- a load of a node: a hand with a token at the node or below it finds the word positive; main with no helper out finds it positive only if main has such a token
abbrev pub queried : ℕ → ℕ → Tells
queried w s st m r m' = (m'.0 ≡ m.0) × (Covers (parent w s) m.0.holding st.word → 0 < r) × (m.0.holding.role ≡ Main 0 → 0 < r → Covers (parent w s) m.0.holding st.word) × (m'.1 ≡ m.1)

-- a load of a stripe: main with no helper out finds its own amount
abbrev pub summed : Tells
summed st m r m' = (m'.0 ≡ m.0) × (m.0.holding.role ≡ Main 0 → r ≡ amount_at st.word m.0.holding % 2 ^ 64) × (m'.1 ≡ m.1)

-- one more at a root
abbrev pub root_added : Tells
root_added st m r m' = (m'.0 ≡ with_holding m.0 (gain m.0.holding st.word)) × (m'.1 ≡ m.1)

-- one more at a node below a root: if the node was zero, the parent's token is used up
abbrev pub child_added : ℕ → ℕ → Tells
child_added w s st m r m' = (r ≡ 0 → m'.0 ≡ with_holding m.0 (lose (gain m.0.holding st.word) (parent w s st.word))) × (r ≢ 0 → m'.0 ≡ with_holding m.0 (gain m.0.holding st.word)) × (m'.1 ≡ m.1)

-- one more at a node that is not zero, if the exchange succeeded
abbrev pub fast_added : Tells
fast_added st m r m' = (r ≡ st.first → m'.0 ≡ with_holding m.0 (gain m.0.holding st.word)) × (r ≢ st.first → m'.0 ≡ m.0) × (m'.1 ≡ m.1)

-- one less at a node: if a node below a root becomes zero, the hand gets a token at the parent
abbrev pub left : ℕ → ℕ → Tells
left w s st m r m' =
    (r ≡ 1 → parent w s st.word ≢ st.word → m'.0 ≡ with_holding m.0 (gain (lose m.0.holding st.word) (parent w s st.word)))
    × (r ≢ 1 → m'.0 ≡ with_holding m.0 (lose m.0.holding st.word))
    × (parent w s st.word ≡ st.word → m'.0 ≡ with_holding m.0 (lose m.0.holding st.word))
    × (m'.1 ≡ m.1)

-- more in a stripe
abbrev pub added_on : Tells
added_on st m r m' = (m'.0 ≡ with_holding m.0 (raise m.0.holding st.word st.first)) × (m'.1 ≡ m.1)

-- a load that adds a token at the word to the share for the next helper
abbrev pub staged : Tells
staged st m r m' = (m'.0 ≡ planned m.0 st.word) × (m'.1 ≡ m.1)

-- a load that begins an empty share
abbrev pub unstaged : Tells
unstaged st m r m' = (m'.0 ≡ record { holding = m.0.holding; plan = [] }) × (m'.1 ≡ m.1)
