-- Each shape is a family.
use Rattle.std.proofs.Common.{◌≡◌, ◌≢◌, ◌⊎◌, ℕ, zero, suc, ◌+◌, ◌-◌, ◌*◌, ◌/◌, ◌%◌, ◌<◌, ◌≤◌, Bool, true, false, cond, sym, refl, ap, ◌∙◌}
use Rattle.std.proofs.Common.{subst, inl, inr, ⊎_elim, arith, lt-ltb, le-ltb, ltb-true, true≢false}
use Rattle.std.specs.Prelude.{nat_lt}
use Rattle.std.proofs.lemmas.Nat.{mod-mul-add, div-mul-add}
use Rattle.snzi_core.specs.Balance.{AtOrBelow, here, below}
use Rattle.std.proofs.Math.Nat.{mod-lt}
use native.Mathlib.Nat.{div-add-mod'}
use mathlib.Core.Logic.{dite}
use native.Mathlib.Decide.{ℕ_discrete}
use Rattle.snzi_core.specs.Shape.{WordKind, inner, leaf, stripe, line_at, line, parent_at, parent, Family, IsShape}

abbrev first_child : WordKind → ℕ
first_child (inner a b) = a
first_child leaf = 0
first_child stripe = 0

abbrev second_child : WordKind → ℕ
second_child (inner a b) = b
second_child leaf = 0
second_child stripe = 0

leaf_inner : (a b : ℕ) → leaf ≡ inner a b → ⊥
leaf_inner a b e = cc

stripe_inner : (a b : ℕ) → stripe ≡ inner a b → ⊥
stripe_inner a b e = cc

pub inner_stripe : (a b : ℕ) → inner a b ≡ stripe → ⊥
inner_stripe a b e = cc

leaf_stripe : leaf ≡ stripe → ⊥
leaf_stripe e = cc

inner_at : (w k i : ℕ) → k + k + 2 < w → line_at w k i ≡ inner (i + k + 1) (i + k + 2)
inner_at w k i h = ap (λ t. cond t (inner (i + k + 1) (i + k + 2)) (cond (nat_lt k w) leaf stripe)) (lt-ltb (k + k + 2) w h)

from_inner : (w k i a b : ℕ) → line_at w k i ≡ inner a b → (k + k + 2 < w) × (a ≡ i + k + 1) × (b ≡ i + k + 2)
from_inner w k i a b is = by_test (nat_lt (k + k + 2) w) refl
  where
    by_test2 : (t u : Bool) → cond t (inner (i + k + 1) (i + k + 2)) (cond u leaf stripe) ≡ inner a b → (t ≡ true) × (a ≡ i + k + 1) × (b ≡ i + k + 2)
    by_test2 true u e = (refl, sym (ap first_child e), sym (ap second_child e))
    by_test2 false true e = absurd (leaf_inner a b e)
    by_test2 false false e = absurd (stripe_inner a b e)

    by_test : (t : Bool) → nat_lt (k + k + 2) w ≡ t → (k + k + 2 < w) × (a ≡ i + k + 1) × (b ≡ i + k + 2)
    by_test t e = let r = by_test2 (nat_lt (k + k + 2) w) (nat_lt k w) is in (ltb-true (k + k + 2) w r.0, r.1, r.2)

node_at : (w k i : ℕ) → k < w → line_at w k i ≢ stripe
node_at w k i h = by_test (nat_lt (k + k + 2) w) (nat_lt k w) (lt-ltb k w h)
  where
    by_test : (t u : Bool) → u ≡ true → cond t (inner (i + k + 1) (i + k + 2)) (cond u leaf stripe) ≡ stripe → ⊥
    by_test true u e f = inner_stripe _ _ f
    by_test false true e f = leaf_stripe f
    by_test false false e f = true≢false (sym e)

parent_in : (w k i : ℕ) → k < w → parent_at w k i ≡ i - k + (k - 1) / 2
parent_in w k i h = ap (λ t. cond t (i - k + (k - 1) / 2) i) (lt-ltb k w h)

from_parent : (w k i : ℕ) → parent_at w k i ≢ i → k < w
from_parent w k i h = by_test (nat_lt k w) refl
  where
    by_test : (t : Bool) → nat_lt k w ≡ t → k < w
    by_test true e = ltb-true k w e
    by_test false e = absurd (h (ap (λ t. cond t (i - k + (k - 1) / 2) i) e))

module _ (w s : ℕ) (shape : IsShape w s) where
  positive : 0 < s
  positive = let h = shape.1 in omega arith

  -- a word's place among the words
  spot : (i : ℕ) → i / s * s + i % s ≡ i
  spot i = div-add-mod' i s

  inside : (i : ℕ) → i % s < s
  inside i = mod-lt i positive

  -- the word d behind i, where that is in the same slot
  further : (i d : ℕ) → i % s + d < s → (i + d) % s ≡ i % s + d
  further i d h = let q : ℕ = i / s * s in let e : q + i % s ≡ i = spot i in let f : i + d ≡ i / s * s + (i % s + d) = omega arith in ap (λ n. n % s) f ∙ mod-mul-add (i / s) s (i % s + d) h

  -- the word of the node m in the slot of i
  moved : (i m : ℕ) → m < s → (i - i % s + m) % s ≡ m
  moved i m h = let q : ℕ = i / s * s in let e : q + i % s ≡ i = spot i in let f : i - i % s + m ≡ i / s * s + m = omega arith in ap (λ n. n % s) f ∙ mod-mul-add (i / s) s m h

  below_self : (i : ℕ) → i % s ≤ i
  below_self i = let q : ℕ = i / s * s in let e : q + i % s ≡ i = spot i in omega arith

  a_child : (i k d : ℕ) → i % s ≡ k → (d ≡ k + 1) ⊎ (d ≡ k + 2) → k + d < w → (parent w s (i + d) ≡ i) × (line w s (i + d) ≢ stripe)
  a_child i k d is which h =
      let r = shape.1 in
      let at : (i + d) % s ≡ k + d = further i d (omega arith) ∙ ap (λ n. n + d) is in
      let le = below_self i in (
        ap (λ n. parent_at w n (i + d)) at ∙ parent_in w (k + d) (i + d) h ∙ ⊎_elim (λ (e : d ≡ k + 1). omega arith) (λ (e : d ≡ k + 2). omega arith) which,
        λ e. node_at w (k + d) (i + d) h (ap (λ n. line_at w n (i + d)) (sym at) ∙ e),
      )

  pub is_family : Family (line w s) (parent w s)
  is_family = record { children = children; child = child }
    where
      children : (i a b : ℕ) → line w s i ≡ inner a b → (parent w s a ≡ i) × (parent w s b ≡ i) × (i < a) × (a < b) × (line w s a ≢ stripe) × (line w s b ≢ stripe)
      children i a b is =
          let f = from_inner w (i % s) i a b is in
          let k : ℕ = i % s in
          let x = a_child i k (k + 1) refl (inl refl) (omega (arith, f.0)) in
          let y = a_child i k (k + 2) refl (inr refl) (omega (arith, f.0)) in
          let a_is : i + (k + 1) ≡ a = omega (arith, f.1) in
          let b_is : i + (k + 2) ≡ b = omega (arith, f.2) in (
            subst (λ n. parent w s n ≡ i) a_is x.0,
            subst (λ n. parent w s n ≡ i) b_is y.0,
            omega (arith, f.1),
            omega (arith, f.1, f.2),
            subst (λ n. line w s n ≢ stripe) a_is x.1,
            subst (λ n. line w s n ≢ stripe) b_is y.1,
          )

      child : (j : ℕ) → parent w s j ≢ j → (x : ℕ) × ((line w s (parent w s j) ≡ inner j x) ⊎ (line w s (parent w s j) ≡ inner x j))
      child j apart =
          let k : ℕ = j % s in
          let h : k < w = from_parent w k j apart in
          let p : parent w s j ≡ j - k + (k - 1) / 2 = parent_in w k j h in
          let le : k ≤ j = below_self j in
          let m : ℕ = (k - 1) / 2 in
          let half = shape.0 in
          let low = shape.1 in
          let at : parent w s j % s ≡ m = ap (λ n. n % s) p ∙ moved j m (omega arith) in
          let some : 0 < k = dite (ℕ_discrete k 0) (λ (z : k ≡ 0). absurd (apart (p ∙ omega arith))) (λ (nz : k ≢ 0). omega arith) in
          let room : m + m + 2 < w = omega arith in
          let is = ap (λ n. line_at w n (parent w s j)) at ∙ inner_at w m (parent w s j) room in
          dite (ℕ_discrete k (m + m + 1))
          (λ (e : k ≡ m + m + 1). (parent w s j + m + 2, inl (is ∙ ap (λ n. inner n (parent w s j + m + 2)) (omega arith))))
          (λ (ne : k ≢ m + m + 1). (parent w s j + m + 1, inr (is ∙ ap (λ n. inner (parent w s j + m + 1) n) (omega arith))))

  -- where the node k of a slot stands
  spot_of : (slot k : ℕ) → k < s → (slot * s + k) % s ≡ k
  spot_of slot k h = mod-mul-add slot s k h

  pub is_node : (slot k : ℕ) → k < w → line w s (slot * s + k) ≢ stripe
  is_node slot k h e = node_at w k (slot * s + k) h (ap (λ n. line_at w n (slot * s + k)) (sym (spot_of slot k (omega (arith, shape.1)))) ∙ e)

  pub is_stripe : (slot k : ℕ) → w ≤ k → k < s → line w s (slot * s + k) ≡ stripe
  is_stripe slot k low h =
      ap (λ n. line_at w n (slot * s + k)) (spot_of slot k h)
      ∙ ap (λ t. cond t (inner (slot * s + k + k + 1) (slot * s + k + k + 2)) (cond (nat_lt k w) leaf stripe)) (le-ltb (k + k + 2) w (omega arith))
      ∙ ap (λ t. cond t leaf stripe) (le-ltb k w low)

  pub is_root : (slot : ℕ) → parent w s (slot * s + 0) ≡ slot * s + 0
  is_root slot = let p : 0 < w = positive_nodes in ap (λ n. parent_at w n (slot * s + 0)) (spot_of slot 0 positive) ∙ parent_in w 0 (slot * s + 0) p ∙ omega arith
    where
      positive_nodes : 0 < w
      positive_nodes = let o = shape.0 in omega arith

  pub parent_is : (slot k : ℕ) → 0 < k → k < w → parent w s (slot * s + k) ≡ slot * s + (k - 1) / 2
  parent_is slot k some h = ap (λ n. parent_at w n (slot * s + k)) (spot_of slot k (omega (arith, shape.1))) ∙ parent_in w k (slot * s + k) h ∙ before
    where
      before : slot * s + k - k + (k - 1) / 2 ≡ slot * s + (k - 1) / 2
      before = let q : ℕ = slot * s in omega arith

  pub has_parent : (slot k : ℕ) → 0 < k → k < w → parent w s (slot * s + k) ≢ slot * s + k
  has_parent slot k some h e = let p = parent_is slot k some h in let q : ℕ = slot * s in let t : slot * s + (k - 1) / 2 ≡ slot * s + k = sym p ∙ e in omega arith

  part_of : (q k : ℕ) → k < s → (q * s + k) / s ≡ q
  part_of q k h = div-mul-add q s k h

  -- what stands below a slot's root is in the slot
  pub in_slot : (slot j : ℕ) → AtOrBelow (parent w s) (slot * s + 0) j → (k : ℕ) × (k < w) × (j ≡ slot * s + k)
  in_slot slot j here = (0, (let o = shape.0 in omega arith), refl)
  in_slot slot j (below j' apart rest) = step_in slot j' apart (in_slot slot (parent w s j') rest)
    where
      step_in : (slot j : ℕ) → parent w s j ≢ j → ((k : ℕ) × (k < w) × (parent w s j ≡ slot * s + k)) → (k : ℕ) × (k < w) × (j ≡ slot * s + k)
      step_in slot j apart r =
          let k : ℕ = j % s in
          let h : k < w = from_parent w k j apart in
          let low = shape.1 in
          let r1 = r.1 in
          let q : ℕ = j / s * s in
          let e : q + k ≡ j = spot j in
          let p : parent w s j ≡ j / s * s + (k - 1) / 2 = parent_in w k j h ∙ omega arith in
          let same : j / s ≡ slot = sym (part_of (j / s) ((k - 1) / 2) (omega arith)) ∙ ap (λ (n : ℕ). n / s) (sym p ∙ r.2) ∙ part_of slot r.0 (omega (arith, r1)) in
          (k, h, sym e ∙ ap (λ (n : ℕ). n * s + k) same)

  pub from_slot : (fuel slot k : ℕ) → k ≤ fuel → k < w → AtOrBelow (parent w s) (slot * s + 0) (slot * s + k)
  from_slot fuel slot zero le h = here
  from_slot zero slot (suc k) le h = absurd (omega arith)
  from_slot (suc fuel) slot (suc k) le h = below (slot * s + suc k) (has_parent slot (suc k) (omega arith) h)
      (subst (λ n. AtOrBelow (parent w s) (slot * s + 0) n) (sym (parent_is slot (suc k) (omega arith) h)) (from_slot fuel slot ((suc k - 1) / 2) (omega arith) (omega arith)))
