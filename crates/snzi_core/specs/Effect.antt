-- The core after a lawful event, and after a list of events.
use Rattle.std.specs.Prelude.{◌≡◌, ℕ, zero, suc, ◌+◌, ◌-◌, ◌%◌, ◌^◌, List, [], ◌∷◌, ◌++◌, map, take, length, replicate, slice_index, slice_set as set, Bool, true, false, cond, Some, None}
use Rattle.std.specs.List.{range_with_len, slice_get}
use Rattle.snzi_core.specs.declared.event.Event.{Event}
use Rattle.snzi_core.specs.declared.event.Event.TheVariants.{Load, FastAdd, RootAdd, ChildAdd, Leave, StripeAdd, Split, Join}
use Rattle.snzi_tokens.specs.declared.token.Token.{Token}
use Rattle.snzi_core.specs.declared.holding.Holding.{Holding}
use Rattle.snzi_core.specs.declared.holding.Role.TheVariants.{Spent}
use Rattle.snzi_core.specs.declared.unlawful.Unlawful.{Unlawful}
use Rattle.snzi_core.specs.declared.unlawful.Unlawful.TheVariants.{NoHand, NoToken, Cap, StillHolding, OutOfMemory, NoNode, ZeroNode}
use Rattle.snzi_core.specs.Holding.{gain, lose, raise, empty, keeper, helper_with, rejoined, amount_at}
use Rattle.snzi_core.specs.Balance.{total}
use Rattle.snzi_core.specs.CoreState.{CoreState, hand_of, node_of, parent_of, root_of, stripe_of}
use Rattle.snzi_core.specs.Lawful.{count_at, is_zero, passes_up, refusal}

-- the core with x at the word i, and with the hand replaced by h
abbrev pub stepped : CoreState → ℕ → ℕ → ℕ → Holding → CoreState
stepped k i x hand h = record { slots = k.slots; nodes = k.nodes; words = set k.words i x; hands = set k.hands hand h }

-- the core with these hands
abbrev pub regrouped : CoreState → List Holding → CoreState
regrouped k hands = record { slots = k.slots; nodes = k.nodes; words = k.words; hands = hands }

-- one more at the word i, and a token there
abbrev pub arrived : CoreState → ℕ → ℕ → CoreState
arrived k hand i = stepped k i (slice_index k.words i + 1) hand (gain (hand_of k hand) i)

-- one more at the word i, and a token there instead of the one at p
abbrev pub descended : CoreState → ℕ → ℕ → ℕ → CoreState
descended k hand p i = stepped k i (slice_index k.words i + 1) hand (lose (gain (hand_of k hand) i) p)

-- one less at the word i, and one token less there
abbrev pub departed : CoreState → ℕ → ℕ → CoreState
departed k hand i = stepped k i (slice_index k.words i - 1) hand (lose (hand_of k hand) i)

-- one less at the word i, and a token at p instead of the one at i
abbrev pub ascended : CoreState → ℕ → ℕ → ℕ → CoreState
ascended k hand p i = stepped k i (slice_index k.words i - 1) hand (gain (lose (hand_of k hand) i) p)

-- n more in the stripe at the word i, counted for the hand
abbrev pub summed : CoreState → ℕ → ℕ → ℕ → CoreState
summed k hand i n = stepped k i ((slice_index k.words i + n) % 2 ^ 64) hand (raise (hand_of k hand) i n)

-- the tokens of a share, by word
abbrev pub counts : CoreState → List Token → List ℕ
counts k share = map (count_at k share) (range_with_len 0 (length k.words))

-- main without the share, and a new hand with the share
abbrev pub split_off : CoreState → List Token → CoreState
split_off k share = regrouped k (set k.hands 0 (keeper (hand_of k 0) (counts k share)) ++ helper_with (counts k share) (replicate (length k.words) 0) ∷ [])

-- main with the helper's tokens and amounts added, and the helper's number spent
abbrev pub joined : CoreState → ℕ → CoreState
joined k helper = regrouped k (set (set k.hands 0 (rejoined (hand_of k 0) (hand_of k helper))) helper (empty Spent))

-- the core after a lawful event
abbrev pub after : CoreState → Event → CoreState
after k (Load hand slot word) = k
after k (FastAdd hand at) = arrived k hand (node_of k at)
after k (RootAdd hand slot) = arrived k hand (root_of k slot)
after k (ChildAdd hand at) = cond (is_zero k (node_of k at)) (descended k hand (parent_of k at) (node_of k at)) (arrived k hand (node_of k at))
after k (Leave hand at) = cond (passes_up k at) (ascended k hand (parent_of k at) (node_of k at)) (departed k hand (node_of k at))
after k (StripeAdd hand slot stripe n) = summed k hand (stripe_of k slot stripe) n
after k (Split share) = split_off k share.now
after k (Join helper) = joined k helper

abbrev pub is_split : Event → Bool
is_split (Load hand slot word) = false
is_split (FastAdd hand at) = false
is_split (RootAdd hand slot) = false
is_split (ChildAdd hand at) = false
is_split (Leave hand at) = false
is_split (StripeAdd hand slot stripe n) = false
is_split (Split share) = true
is_split (Join helper) = false

-- the event is refused for this reason; only a lawful split can be out of memory
abbrev pub Refuses : Unlawful → CoreState → Event → Type 0
Refuses NoHand k e = refusal k e ≡ Some NoHand
Refuses NoToken k e = refusal k e ≡ Some NoToken
Refuses Cap k e = refusal k e ≡ Some Cap
Refuses StillHolding k e = refusal k e ≡ Some StillHolding
Refuses OutOfMemory k e = (refusal k e ≡ None) × (is_split e ≡ true)
Refuses NoNode k e = refusal k e ≡ Some NoNode
Refuses ZeroNode k e = refusal k e ≡ Some ZeroNode

-- the core after a list of events, each lawful at its turn
abbrev pub Runs : CoreState → List Event → CoreState → Type 0
Runs k [] k' = k' ≡ k
Runs k (e ∷ es) k' = (refusal k e ≡ None) × Runs (after k e) es k'

-- the events before index i were done, and the event at i is refused
abbrev pub Stops : CoreState → List Event → ℕ → Unlawful → CoreState → Type 0
Stops k es i u k' = Runs k (take i es) k' × (e : Event) × (slice_get es i ≡ Some e) × Refuses u k' e

-- the hands' amounts in the first n stripes of a slot
abbrev pub slot_amounts : CoreState → ℕ → ℕ → ℕ
slot_amounts k slot zero = 0
slot_amounts k slot (suc n) = slot_amounts k slot n + total (amount_at (stripe_of k slot n)) k.hands
