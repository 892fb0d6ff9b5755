-- Which events are lawful, and which refusal the others meet first.
use Rattle.std.specs.Prelude.{ℕ, ◌+◌, ◌-◌, ◌^◌, List, length, slice_index, Bool, true, false, not, ◌&&◌, ◌||◌, cond, nat_eq, nat_lt, nat_le, Option, Some, None, count_by}
use Rattle.std.specs.List.{list_all, list_any, range_with_len}
use Rattle.snzi_core.specs.declared.event.At.{At}
use Rattle.snzi_tokens.specs.declared.token.Token.{Token}
use Rattle.snzi_core.specs.declared.event.Event.{Event}
use Rattle.snzi_core.specs.declared.event.Event.TheVariants.{Load, FastAdd, RootAdd, ChildAdd, Leave, StripeAdd, Split, Join}
use Rattle.snzi_core.specs.declared.holding.Role.{Role}
use Rattle.snzi_core.specs.declared.holding.Role.TheVariants.{Main, Helper, Spent}
use Rattle.snzi_core.specs.declared.unlawful.Unlawful.{Unlawful}
use Rattle.snzi_core.specs.declared.unlawful.Unlawful.TheVariants.{NoHand, NoToken, Cap, StillHolding, NoNode, ZeroNode}
use Rattle.snzi_core.specs.Caps.{token_cap, helper_cap}
use Rattle.snzi_core.specs.Shape.{WordKind, inner, leaf, stripe, leaves}
use Rattle.snzi_core.specs.Holding.{tokens_at, out}
use Rattle.snzi_core.specs.CoreState.{CoreState, hand_of, node_of, parent_of, root_of, token_of, span, kind_of}

-- the slot, node, word or stripe that an event names is in the shape
abbrev pub has_node : CoreState → At → Bool
has_node k at = nat_lt at.slot k.slots && nat_lt at.node k.nodes

abbrev pub has_word : CoreState → ℕ → ℕ → Bool
has_word k slot word = nat_lt slot k.slots && nat_lt word (span k)

abbrev pub has_stripe : CoreState → ℕ → ℕ → Bool
has_stripe k slot s = nat_lt slot k.slots && nat_lt s (leaves k.nodes)

abbrev pub has_token : CoreState → Token → Bool
has_token k t = nat_lt t.slot k.slots && nat_lt t.leaf (leaves k.nodes)

-- the hand was made and is not spent
abbrev pub lives : Role → Bool
lives (Main n) = true
lives Helper = true
lives Spent = false

abbrev pub helps : Role → Bool
helps (Main n) = false
helps Helper = true
helps Spent = false

abbrev pub is_live : CoreState → ℕ → Bool
is_live k hand = lives (hand_of k hand).role

-- the hand has no token at the word, or as many as the cap
abbrev pub lacks : CoreState → ℕ → ℕ → Bool
lacks k hand i = nat_eq (tokens_at i (hand_of k hand)) 0

abbrev pub is_at_cap : CoreState → ℕ → ℕ → Bool
is_at_cap k hand i = nat_le token_cap (tokens_at i (hand_of k hand))

-- the word is zero
abbrev pub is_zero : CoreState → ℕ → Bool
is_zero k i = nat_eq (slice_index k.words i) 0

-- a leave moves a token to the parent
abbrev pub passes_up : CoreState → At → Bool
passes_up k at = nat_eq (slice_index k.words (node_of k at)) 1 && not (nat_eq at.node 0)

-- how many of these tokens are at the word i
abbrev pub count_at : CoreState → List Token → ℕ → ℕ
count_at k share i = count_by (λ t. nat_eq (token_of k t) i) share

-- main has at least as many tokens at the leaf as the share
abbrev pub main_covers : CoreState → List Token → Token → Bool
main_covers k share t = nat_le (count_at k share (token_of k t)) (tokens_at (token_of k t) (hand_of k 0))

-- main has these tokens
abbrev pub main_has : CoreState → List Token → Bool
main_has k share = list_all (main_covers k share) share

-- no more helpers may be out, or no more hands may be made
abbrev pub is_crowded : CoreState → Bool
is_crowded k = nat_le helper_cap (out (hand_of k 0).role) || nat_le (2 ^ 32 - 1) (length k.hands)

-- some word of the core passes the test
abbrev pub some_word : CoreState → (ℕ → Bool) → Bool
some_word k test = list_any test (range_with_len 0 (length k.words))

-- main and the helper together have more tokens at the word than one hand may have
abbrev pub overflows : CoreState → ℕ → ℕ → Bool
overflows k helper i = nat_lt token_cap (tokens_at i (hand_of k 0) + tokens_at i (hand_of k helper))

abbrev pub is_inner : WordKind → Bool
is_inner (inner a b) = true
is_inner leaf = false
is_inner stripe = false

-- the hand has a token at a node that is not a leaf
abbrev pub stays : CoreState → ℕ → ℕ → Bool
stays k hand i = is_inner (kind_of k i) && nat_lt 0 (tokens_at i (hand_of k hand))

-- the refusal if the test holds, else the rest
abbrev pub refuse : Bool → Unlawful → Option Unlawful → Option Unlawful
refuse test refusal rest = cond test (Some refusal) rest

-- the refusal of an add in a stripe, whatever the amount
abbrev pub refuses_stripe_add : CoreState → ℕ → ℕ → ℕ → Option Unlawful
refuses_stripe_add k hand slot s = refuse (not (has_stripe k slot s)) NoNode (refuse (not (is_live k hand)) NoHand None)

-- the refusal of a split with this share
abbrev pub refuses_split : CoreState → List Token → Option Unlawful
refuses_split k share = refuse (not (list_all (has_token k) share)) NoNode (refuse (not (main_has k share)) NoToken (refuse (is_crowded k) Cap None))

-- the refusal of an event, or None if it is lawful within the caps
abbrev pub refusal : CoreState → Event → Option Unlawful
refusal k (Load hand slot word) = refuse (not (has_word k slot word)) NoNode (refuse (not (is_live k hand)) NoHand None)
refusal k (FastAdd hand at) =
    refuse (not (has_node k at)) NoNode (refuse (not (is_live k hand)) NoHand (refuse (is_zero k (node_of k at)) ZeroNode (refuse (is_at_cap k hand (node_of k at)) Cap None)))
refusal k (RootAdd hand slot) = refuse (not (nat_lt slot k.slots)) NoNode (refuse (not (is_live k hand)) NoHand (refuse (is_at_cap k hand (root_of k slot)) Cap None))
refusal k (ChildAdd hand at) =
    refuse (not (has_node k at) || nat_eq at.node 0) NoNode (refuse (not (is_live k hand)) NoHand (refuse (lacks k hand (parent_of k at)) NoToken (refuse (is_at_cap k hand (node_of k at)) Cap None)))
refusal k (Leave hand at) =
    refuse (not (has_node k at)) NoNode (refuse (not (is_live k hand)) NoHand (refuse (lacks k hand (node_of k at)) NoToken (refuse (passes_up k at && is_at_cap k hand (parent_of k at)) Cap None)))
refusal k (StripeAdd hand slot s n) = refuses_stripe_add k hand slot s
refusal k (Split share) = refuses_split k share.now
refusal k (Join helper) = refuse (not (helps (hand_of k helper).role)) NoHand (refuse (some_word k (overflows k helper)) Cap (refuse (some_word k (stays k helper)) StillHolding None))
