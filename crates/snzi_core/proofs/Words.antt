-- What a core's words tell of its hands.
use Rattle.std.proofs.Common.{◌≡◌, ◌≢◌, ◌↔◌, IsTrue, ℕ, ◌+◌, ◌*◌, ◌%◌, ◌^◌, ◌<◌, ◌≤◌, length, refl, ◌∙◌, subst, arith, lt-ltb, ltb-true, mul-le-mul_right, add-one}
use Rattle.std.specs.Prelude.{slice_index, nat_lt}
use Rattle.snzi_core.specs.Holding.{amount_at}
use Rattle.snzi_core.specs.Shape.{WordKind, stripe, leaves, node_word}
use Rattle.snzi_core.specs.Balance.{total, Present, Stands}
use Rattle.snzi_core.specs.CoreState.{CoreState, span, kind_of, above, stripe_of}
use Rattle.snzi_core.specs.Effect.{slot_amounts}
use Rattle.snzi_core.specs.Kept.{IsCore}
use Rattle.snzi_core.proofs.Shapes.{is_node, is_stripe, is_family}
use Rattle.snzi_core.proofs.Presence.{present_positive, positive_present}
use Rattle.snzi_core.proofs.CoreSteps.{shape_of}

-- a slot's words are among the words
pub word_inside : (k : CoreState) (slot j : ℕ) → IsCore k → slot < k.slots → j < span k → slot * span k + j < length k.words
word_inside k slot j c h g =
    let w = c.words in
    let m : (slot + 1) * span k ≤ k.slots * span k = mul-le-mul_right (span k) (omega arith) in
    omega arith

pub node_kind : (k : CoreState) (slot node : ℕ) → IsCore k → node < k.nodes → kind_of k (node_word k.nodes (leaves k.nodes) slot node) ≢ stripe
node_kind k slot node c h = is_node k.nodes (span k) (shape_of k c) slot node h

pub stripe_kind : (k : CoreState) (slot s : ℕ) → IsCore k → s < leaves k.nodes → kind_of k (stripe_of k slot s) ≡ stripe
stripe_kind k slot s c h = is_stripe k.nodes (span k) (shape_of k c) slot (k.nodes + s) (omega arith) (omega arith)

-- a query tells whether a token is present
pub query_is : (k : CoreState) (slot node x : ℕ) → IsCore k → node < k.nodes → x ≡ slice_index k.words (node_word k.nodes (leaves k.nodes) slot node)
    → IsTrue (nat_lt 0 x) ↔ Present (above k) k.hands (node_word k.nodes (leaves k.nodes) slot node)
query_is k slot node x c h is = (
  (λ t. positive_present (kind_of k) (above k) (is_family k.nodes (span k) (shape_of k c)) k.words k.hands c.rule.0
      (node_word k.nodes (leaves k.nodes) slot node) (node_kind k slot node c h) (let p = ltb-true 0 x t in omega arith)),
  (λ p. lt-ltb 0 x (let q = present_positive (kind_of k) (above k) (is_family k.nodes (span k) (shape_of k c)) k.words k.hands c.rule.0
      (node_word k.nodes (leaves k.nodes) slot node) (node_kind k slot node c h) p in omega arith)),
)

-- one more stripe in a sum modulo 2^64
pub sum_more : (k : CoreState) (slot s a x : ℕ) → IsCore k → s < leaves k.nodes → a ≡ slot_amounts k slot s % 2 ^ 64
    → x ≡ slice_index k.words (stripe_of k slot s) → (a + x) % 2 ^ 64 ≡ slot_amounts k slot (s + 1) % 2 ^ 64
sum_more k slot s a x c h was is = more (slot_amounts k slot s) (total (amount_at (stripe_of k slot s)) k.hands) a x (slot_amounts k slot (s + 1)) was (is ∙ stands) (next s)
  where
    stands : slice_index k.words (stripe_of k slot s) ≡ total (amount_at (stripe_of k slot s)) k.hands % 2 ^ 64
    stands = subst (λ (l : WordKind). Stands k.words k.hands (stripe_of k slot s) l) (stripe_kind k slot s c h) (c.rule.0 (stripe_of k slot s))

    more : (m t a x r : ℕ) → a ≡ m % 18446744073709551616 → x ≡ t % 18446744073709551616 → r ≡ m + t → (a + x) % 18446744073709551616 ≡ r % 18446744073709551616
    more m t a x r e f g = omega arith

    next : (n : ℕ) → slot_amounts k slot (n + 1) ≡ slot_amounts k slot n + total (amount_at (stripe_of k slot n)) k.hands
    next n = rw add-one refl
