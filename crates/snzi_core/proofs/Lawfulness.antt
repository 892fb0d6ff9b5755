-- What an event without a refusal tells: each test of its line fails.
use Rattle.std.proofs.Common.{◌≡◌, ℕ, Bool, true, false, not, ◌&&◌, refl, Option, None}
use Rattle.std.specs.Prelude.{nat_eq, nat_lt}
use Rattle.std.proofs.lemmas.Bool.{not-false, or_parts}
use Rattle.snzi_core.specs.declared.event.At.{At}
use Rattle.snzi_core.specs.declared.event.Event.TheVariants.{FastAdd, RootAdd, ChildAdd, Leave, StripeAdd, Join}
use Rattle.snzi_core.specs.declared.unlawful.Unlawful.{Unlawful}
use Rattle.snzi_core.specs.CoreState.{CoreState, hand_of, node_of, parent_of, root_of}
use Rattle.snzi_core.specs.Lawful.{refuse, refusal, has_node, has_stripe, is_live, is_zero, is_at_cap, lacks, passes_up, helps, some_word, overflows, stays}

pub refuse_none : (t : Bool) (u : Unlawful) (rest : Option Unlawful) → refuse t u rest ≡ None → (t ≡ false) × (rest ≡ None)
refuse_none true u rest e = absurd (cc)
refuse_none false u rest e = (refl, e)

module _ (k : CoreState) where
  pub fast_add : (hand : ℕ) (at : At) → refusal k (FastAdd hand at) ≡ None → (has_node k at ≡ true) × (is_live k hand ≡ true)
      × (is_zero k (node_of k at) ≡ false) × (is_at_cap k hand (node_of k at) ≡ false)
  fast_add hand at e =
      let a = refuse_none _ _ _ e in let b = refuse_none _ _ _ a.1 in let c = refuse_none _ _ _ b.1 in let d = refuse_none _ _ _ c.1 in
      (not-false (has_node k at) a.0, not-false (is_live k hand) b.0, c.0, d.0)

  pub root_add : (hand slot : ℕ) → refusal k (RootAdd hand slot) ≡ None → (nat_lt slot k.slots ≡ true) × (is_live k hand ≡ true) × (is_at_cap k hand (root_of k slot) ≡ false)
  root_add hand slot e =
      let a = refuse_none _ _ _ e in let b = refuse_none _ _ _ a.1 in let c = refuse_none _ _ _ b.1 in
      (not-false (nat_lt slot k.slots) a.0, not-false (is_live k hand) b.0, c.0)

  pub child_add : (hand : ℕ) (at : At) → refusal k (ChildAdd hand at) ≡ None → (has_node k at ≡ true) × (nat_eq at.node 0 ≡ false)
      × (is_live k hand ≡ true) × (lacks k hand (parent_of k at) ≡ false) × (is_at_cap k hand (node_of k at) ≡ false)
  child_add hand at e =
      let a = refuse_none _ _ _ e in let b = refuse_none _ _ _ a.1 in let c = refuse_none _ _ _ b.1 in let d = refuse_none _ _ _ c.1 in
      let f = or_parts (not (has_node k at)) (nat_eq at.node 0) a.0 in
      (not-false (has_node k at) f.0, f.1, not-false (is_live k hand) b.0, c.0, d.0)

  pub leave : (hand : ℕ) (at : At) → refusal k (Leave hand at) ≡ None → (has_node k at ≡ true) × (is_live k hand ≡ true)
      × (lacks k hand (node_of k at) ≡ false) × ((passes_up k at && is_at_cap k hand (parent_of k at)) ≡ false)
  leave hand at e =
      let a = refuse_none _ _ _ e in let b = refuse_none _ _ _ a.1 in let c = refuse_none _ _ _ b.1 in let d = refuse_none _ _ _ c.1 in
      (not-false (has_node k at) a.0, not-false (is_live k hand) b.0, c.0, d.0)

  pub stripe_add : (hand slot s n : ℕ) → refusal k (StripeAdd hand slot s n) ≡ None → (has_stripe k slot s ≡ true) × (is_live k hand ≡ true)
  stripe_add hand slot s n e =
      let a = refuse_none _ _ _ e in let b = refuse_none _ _ _ a.1 in
      (not-false (has_stripe k slot s) a.0, not-false (is_live k hand) b.0)

  pub join : (helper : ℕ) → refusal k (Join helper) ≡ None → (helps (hand_of k helper).role ≡ true) × (some_word k (overflows k helper) ≡ false) × (some_word k (stays k helper) ≡ false)
  join helper e =
      let a = refuse_none _ _ _ e in let b = refuse_none _ _ _ a.1 in let c = refuse_none _ _ _ b.1 in
      (not-false (helps (hand_of k helper).role) a.0, b.0, c.0)
