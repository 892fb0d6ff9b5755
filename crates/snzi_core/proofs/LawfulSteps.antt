-- A lawful event finds what its step asks, and leaves a core.
use Rattle.std.proofs.Common.{◌≡◌, ◌≢◌, ℕ, zero, suc, ◌+◌, ◌-◌, ◌/◌, ◌<◌, Bool, true, false, not, ◌&&◌, length, refl, sym, ◌∙◌, subst, arith, true≢false, ltb-true, None, eqb-true, eq-eqb}
use Rattle.std.specs.Prelude.{slice_index, nat_eq, nat_lt}
use Rattle.std.proofs.lemmas.Bool.{and_parts, not-true, not-false, leb-false}
use Rattle.snzi_core.specs.declared.event.At.{At}
use Rattle.snzi_core.specs.declared.event.Event.TheVariants.{FastAdd, RootAdd, ChildAdd, Leave, StripeAdd}
use Rattle.snzi_core.specs.Holding.{tokens_at}
use Rattle.snzi_core.specs.Shape.{leaves, node_word}
use Rattle.snzi_core.specs.CoreState.{CoreState, span, hand_of, node_of, parent_of, root_of, stripe_of, kind_of, above}
use Rattle.snzi_core.specs.Lawful.{refusal, is_live, is_zero, is_at_cap, lacks, passes_up}
use Rattle.snzi_core.specs.Effect.{arrived, descended, departed, ascended, summed}
use Rattle.snzi_core.specs.Kept.{IsCore}
use Rattle.snzi_core.proofs.Shapes.{is_root, parent_is, has_parent}
use Rattle.snzi_core.proofs.Muster.{word_small}
use Rattle.snzi_core.proofs.BalanceSteps.{at_least}
use Rattle.snzi_core.proofs.CoreSteps.{shape_of, live_at, arrived_core, departed_core, descended_core, ascended_core, summed_core}
use Rattle.snzi_core.proofs.Words.{word_inside, node_kind, stripe_kind}
use Rattle.snzi_core.proofs.Lawfulness.{fast_add, root_add, child_add, leave, stripe_add}

-- what the steps of a core ask
abbrev pub Arrives : CoreState → ℕ → ℕ → Type 0
Arrives k hand i = (i < length k.words) × (is_live k hand ≡ true) × ((slice_index k.words i < 18446744073709551615) × (tokens_at i (hand_of k hand) < 1099511627776)) × IsCore (arrived k hand i)

abbrev pub Descends : CoreState → ℕ → ℕ → ℕ → Type 0
Descends k hand p i = ((p < length k.words) × (i < length k.words) × (p ≢ i)) × (is_live k hand ≡ true)
    × ((slice_index k.words i < 18446744073709551615) × (tokens_at i (hand_of k hand) < 1099511627776)) × (0 < tokens_at p (hand_of k hand))
    × IsCore (descended k hand p i)

abbrev pub Departs : CoreState → ℕ → ℕ → Type 0
Departs k hand i = (i < length k.words) × (is_live k hand ≡ true) × ((0 < slice_index k.words i) × (0 < tokens_at i (hand_of k hand))) × IsCore (departed k hand i)

abbrev pub Ascends : CoreState → ℕ → ℕ → ℕ → Type 0
Ascends k hand p i = ((p < length k.words) × (i < length k.words) × (p ≢ i)) × (is_live k hand ≡ true)
    × ((0 < slice_index k.words i) × (0 < tokens_at i (hand_of k hand))) × (tokens_at p (hand_of k hand) < 1099511627776)
    × IsCore (ascended k hand p i)

abbrev pub Sums : CoreState → ℕ → ℕ → ℕ → Type 0
Sums k hand i n = (i < length k.words) × (is_live k hand ≡ true) × IsCore (summed k hand i n)

some_of : (a : ℕ) → nat_eq a 0 ≡ false → 0 < a
some_of zero e = absurd (true≢false e)
some_of (suc a) e = omega arith

pub named : (a b c d : ℕ) → (nat_lt a b && nat_lt c d) ≡ true → (a < b) × (c < d)
named a b c d e = let t = and_parts (nat_lt a b) (nat_lt c d) e in (ltb-true a b t.0, ltb-true c d t.1)

both_false : (a b : Bool) → (a && b) ≡ false → a ≡ true → b ≡ false
both_false true b e h = e
both_false false b e h = absurd (true≢false (sym h))

module _ (k : CoreState) (c : IsCore k) where
  -- where a node is in the shape, and what is known of its parent
  module _ (slot node : ℕ) (low : slot < k.slots) (in_slot : node < k.nodes) where
    i : ℕ
    i = node_word k.nodes (leaves k.nodes) slot node

    at_node : node_word k.nodes (leaves k.nodes) slot node < length k.words
    at_node = word_inside k slot node c low (omega arith)

    at_parent : node_word k.nodes (leaves k.nodes) slot ((node - 1) / 2) < length k.words
    at_parent = word_inside k slot ((node - 1) / 2) c low (omega arith)

    parents : 0 < node → above k (node_word k.nodes (leaves k.nodes) slot node) ≡ node_word k.nodes (leaves k.nodes) slot ((node - 1) / 2)
    parents pos = parent_is k.nodes (span k) (shape_of k c) slot node pos in_slot

    apart : 0 < node → node_word k.nodes (leaves k.nodes) slot ((node - 1) / 2) ≢ node_word k.nodes (leaves k.nodes) slot node
    apart pos e = has_parent k.nodes (span k) (shape_of k c) slot node pos in_slot (parents pos ∙ e)

    room : slice_index k.words (node_word k.nodes (leaves k.nodes) slot node) < 18446744073709551615
    room = word_small (kind_of k) k.words k.hands (node_word k.nodes (leaves k.nodes) slot node) (node_kind k slot node c in_slot) c.rule

    arrives : (hand : ℕ) → is_live k hand ≡ true → is_at_cap k hand (node_word k.nodes (leaves k.nodes) slot node) ≡ false
        → (above k (node_word k.nodes (leaves k.nodes) slot node) ≢ node_word k.nodes (leaves k.nodes) slot node
        → 0 < slice_index k.words (node_word k.nodes (leaves k.nodes) slot node))
        → Arrives k hand (node_word k.nodes (leaves k.nodes) slot node)
    arrives hand live cap filled =
        let less = leb-false 1099511627776 (tokens_at (node_word k.nodes (leaves k.nodes) slot node) (hand_of k hand)) cap in
        (at_node, live, (room, less), arrived_core k c hand (node_word k.nodes (leaves k.nodes) slot node) live at_node (node_kind k slot node c in_slot) filled less)

    descends : (hand : ℕ) → 0 < node → is_live k hand ≡ true → is_at_cap k hand (node_word k.nodes (leaves k.nodes) slot node) ≡ false
        → lacks k hand (node_word k.nodes (leaves k.nodes) slot ((node - 1) / 2)) ≡ false
        → slice_index k.words (node_word k.nodes (leaves k.nodes) slot node) ≡ 0
        → Descends k hand (node_word k.nodes (leaves k.nodes) slot ((node - 1) / 2)) (node_word k.nodes (leaves k.nodes) slot node)
    descends hand pos live cap has none =
        let less = leb-false 1099511627776 (tokens_at (node_word k.nodes (leaves k.nodes) slot node) (hand_of k hand)) cap in
        let have = some_of (tokens_at (node_word k.nodes (leaves k.nodes) slot ((node - 1) / 2)) (hand_of k hand)) has in (
          (at_parent, at_node, apart pos),
          live,
          (room, less),
          have,
          descended_core k c hand (node_word k.nodes (leaves k.nodes) slot node) live at_node
              (node_word k.nodes (leaves k.nodes) slot ((node - 1) / 2)) (parents pos) (apart pos) at_parent
              (node_kind k slot node c in_slot) none less have,
        )

    filled_word : (hand : ℕ) → is_live k hand ≡ true → 0 < tokens_at (node_word k.nodes (leaves k.nodes) slot node) (hand_of k hand)
        → 0 < slice_index k.words (node_word k.nodes (leaves k.nodes) slot node)
    filled_word hand live have = let a =
        at_least (kind_of k) k.words k.hands hand (hand_of k hand) (live_at k.hands hand live)
        (node_word k.nodes (leaves k.nodes) slot node) (node_kind k slot node c in_slot) c.rule.0 in omega arith

    departs : (hand : ℕ) → is_live k hand ≡ true → lacks k hand (node_word k.nodes (leaves k.nodes) slot node) ≡ false
        → (above k (node_word k.nodes (leaves k.nodes) slot node) ≢ node_word k.nodes (leaves k.nodes) slot node
        → slice_index k.words (node_word k.nodes (leaves k.nodes) slot node) ≢ 1)
        → Departs k hand (node_word k.nodes (leaves k.nodes) slot node)
    departs hand live has more =
        let have = some_of (tokens_at (node_word k.nodes (leaves k.nodes) slot node) (hand_of k hand)) has in
        (at_node, live, (filled_word hand live have, have), departed_core k c hand (node_word k.nodes (leaves k.nodes) slot node) live at_node (node_kind k slot node c in_slot) more have)

    ascends : (hand : ℕ) → 0 < node → is_live k hand ≡ true → lacks k hand (node_word k.nodes (leaves k.nodes) slot node) ≡ false
        → is_at_cap k hand (node_word k.nodes (leaves k.nodes) slot ((node - 1) / 2)) ≡ false
        → slice_index k.words (node_word k.nodes (leaves k.nodes) slot node) ≡ 1
        → Ascends k hand (node_word k.nodes (leaves k.nodes) slot ((node - 1) / 2)) (node_word k.nodes (leaves k.nodes) slot node)
    ascends hand pos live has cap one =
        let have = some_of (tokens_at (node_word k.nodes (leaves k.nodes) slot node) (hand_of k hand)) has in
        let less = leb-false 1099511627776 (tokens_at (node_word k.nodes (leaves k.nodes) slot ((node - 1) / 2)) (hand_of k hand)) cap in (
          (at_parent, at_node, apart pos),
          live,
          (filled_word hand live have, have),
          less,
          ascended_core k c hand (node_word k.nodes (leaves k.nodes) slot node) live at_node
              (node_word k.nodes (leaves k.nodes) slot ((node - 1) / 2)) (parents pos) (apart pos) at_parent
              (node_kind k slot node c in_slot) one less have,
        )

  pub ready_fast : (hand : ℕ) (at : At) → refusal k (FastAdd hand at) ≡ None → Arrives k hand (node_of k at)
  ready_fast hand at e =
      let t = fast_add k hand at e in let n = named at.slot k.slots at.node k.nodes t.0 in
      arrives at.slot at.node n.0 n.1 hand t.1 t.3 (λ _. some_of (slice_index k.words (node_of k at)) t.2)

  positive_nodes : 0 < k.nodes
  positive_nodes = let o = c.odd in omega arith

  pub ready_root : (hand slot : ℕ) → refusal k (RootAdd hand slot) ≡ None → Arrives k hand (root_of k slot)
  ready_root hand slot e =
      let t = root_add k hand slot e in
      arrives slot 0 (ltb-true slot k.slots t.0) positive_nodes hand t.1 t.2 (λ apart. absurd (apart (is_root k.nodes (span k) (shape_of k c) slot)))

  pub ready_first : (hand : ℕ) (at : At) → refusal k (ChildAdd hand at) ≡ None → is_zero k (node_of k at) ≡ true → Descends k hand (parent_of k at) (node_of k at)
  ready_first hand at e z =
      let t = child_add k hand at e in let n = named at.slot k.slots at.node k.nodes t.0 in
      descends at.slot at.node n.0 n.1 hand (some_of at.node t.1) t.2 t.4 t.3 (eqb-true (slice_index k.words (node_of k at)) 0 z)

  pub ready_child : (hand : ℕ) (at : At) → refusal k (ChildAdd hand at) ≡ None → is_zero k (node_of k at) ≡ false → Arrives k hand (node_of k at)
  ready_child hand at e nz =
      let t = child_add k hand at e in let n = named at.slot k.slots at.node k.nodes t.0 in
      arrives at.slot at.node n.0 n.1 hand t.2 t.4 (λ _. some_of (slice_index k.words (node_of k at)) nz)

  pub ready_last : (hand : ℕ) (at : At) → refusal k (Leave hand at) ≡ None → passes_up k at ≡ true → Ascends k hand (parent_of k at) (node_of k at)
  ready_last hand at e p =
      let t = leave k hand at e in let n = named at.slot k.slots at.node k.nodes t.0 in
      let b = and_parts (nat_eq (slice_index k.words (node_of k at)) 1) (not (nat_eq at.node 0)) p in
      ascends at.slot at.node n.0 n.1 hand (some_of at.node (not-true (nat_eq at.node 0) b.1)) t.1 t.2
      (both_false (passes_up k at) (is_at_cap k hand (parent_of k at)) t.3 p) (eqb-true (slice_index k.words (node_of k at)) 1 b.0)

  pub ready_leave : (hand : ℕ) (at : At) → refusal k (Leave hand at) ≡ None → passes_up k at ≡ false → Departs k hand (node_of k at)
  ready_leave hand at e p =
      let t = leave k hand at e in let n = named at.slot k.slots at.node k.nodes t.0 in
      departs at.slot at.node n.0 n.1 hand t.1 t.2
      (λ apart one. apart (at_root at.node
      (not-false (nat_eq at.node 0) (both_false (nat_eq (slice_index k.words (node_of k at)) 1) (not (nat_eq at.node 0)) p
      (eq-eqb (slice_index k.words (node_of k at)) 1 one)))))
    where
      at_root : (node : ℕ) → nat_eq node 0 ≡ true → above k (node_word k.nodes (leaves k.nodes) at.slot node) ≡ node_word k.nodes (leaves k.nodes) at.slot node
      at_root node z = subst (λ (m : ℕ). above k (node_word k.nodes (leaves k.nodes) at.slot m)
          ≡ node_word k.nodes (leaves k.nodes) at.slot m) (sym (eqb-true node 0 z)) (is_root k.nodes (span k) (shape_of k c) at.slot)

  pub ready_stripe : (hand slot s n : ℕ) → refusal k (StripeAdd hand slot s n) ≡ None → Sums k hand (stripe_of k slot s) n
  ready_stripe hand slot s n e =
      let t = stripe_add k hand slot s n e in let m = named slot k.slots s (leaves k.nodes) t.0 in
      let inside = word_inside k slot (k.nodes + s) c m.0 (omega (arith, m.1)) in
      (inside, t.1, summed_core k c hand (stripe_of k slot s) t.1 inside n (stripe_kind k slot s c m.1))
