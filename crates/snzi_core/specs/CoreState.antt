-- A core as contracts see it: its words, and its hands by number.
use Rattle.std.specs.Prelude.{◌≡◌, ℕ, ◌+◌, ◌-◌, ◌*◌, ◌/◌, List, [], ◌∷◌, replicate, slice_index_or}
use Rattle.snzi_core.specs.declared.event.At.{At}
use Rattle.snzi_tokens.specs.declared.token.Token.{Token}
use Rattle.snzi_core.specs.declared.holding.Holding.{Holding}
use Rattle.snzi_core.specs.declared.holding.Role.{Role}
use Rattle.snzi_core.specs.declared.holding.Role.TheVariants.{Main, Spent}
use Rattle.snzi_core.specs.Shape.{WordKind, line, parent, leaves, node_word, stripe_word, leaf_word}
use Rattle.snzi_core.specs.Holding.{empty}
use Rattle.snzi_core.specs.Balance.{Ruled}

-- slots of nodes in heap order and their stripes; words and hands by number
pub record CoreState : Type 0 where
  pub slots : ℕ
  pub nodes : ℕ
  pub words : List ℕ
  pub hands : List Holding

-- the words of a slot, and of all slots
abbrev pub span : CoreState → ℕ
span k = k.nodes + leaves k.nodes

abbrev pub size : ℕ → ℕ → ℕ
size slots nodes = slots * (nodes + leaves nodes)

-- the numbers of the words that an event names
abbrev pub node_of : CoreState → At → ℕ
node_of k at = node_word k.nodes (leaves k.nodes) at.slot at.node

abbrev pub parent_of : CoreState → At → ℕ
parent_of k at = node_word k.nodes (leaves k.nodes) at.slot ((at.node - 1) / 2)

abbrev pub root_of : CoreState → ℕ → ℕ
root_of k slot = node_word k.nodes (leaves k.nodes) slot 0

abbrev pub stripe_of : CoreState → ℕ → ℕ → ℕ
stripe_of k slot n = stripe_word k.nodes (leaves k.nodes) slot n

abbrev pub token_of : CoreState → Token → ℕ
token_of k t = leaf_word k.nodes (leaves k.nodes) t.slot t.leaf

-- the hand of a number; a number that was never made is spent
abbrev pub hand_of : CoreState → ℕ → Holding
hand_of k id = slice_index_or k.hands id (empty Spent)

-- the kind of each word of the core, and the parent's word
abbrev pub kind_of : CoreState → ℕ → WordKind
kind_of k = line k.nodes (span k)

abbrev pub above : CoreState → ℕ → ℕ
above k = parent k.nodes (span k)

-- a hand with no token and no amount among n words
abbrev pub fresh : ℕ → Role → Holding
fresh n r = record { role = r; tokens = replicate n 0; amounts = replicate n 0 }

-- all words zero, and the main hand, which holds nothing
abbrev pub start : ℕ → ℕ → CoreState
start slots nodes = record { slots = slots; nodes = nodes; words = replicate (size slots nodes) 0; hands = fresh (size slots nodes) (Main 0) ∷ [] }

-- the invariant of a core: the balance and the caps
abbrev pub IsRuled : CoreState → Type 0
IsRuled k = Ruled (kind_of k) k.words k.hands

-- the number of slots and of nodes stays
abbrev pub SameShape : CoreState → CoreState → Type 0
SameShape k k' = (k'.slots ≡ k.slots) × (k'.nodes ≡ k.nodes)
