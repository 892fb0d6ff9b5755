-- Under the balance a node's word is positive exactly where a token is present.
use Rattle.std.proofs.Common.{◌↔◌, ◌≡◌, ◌≢◌, ℕ, zero, suc, ◌+◌, ◌%◌, ◌^◌, ◌<◌, ◌≤◌, List, [], ◌∷◌, length, sym, refl, ap, ◌∙◌, subst, ⊎_elim, arith}
use Rattle.std.specs.Prelude.{slice_index}
use mathlib.Core.Option.{some}
use mathlib.Core.Logic.{dite}
use native.Mathlib.Decide.{ℕ_discrete}
use lib.ListN.{get_elem?}
use Rattle.snzi_core.specs.declared.holding.Holding.{Holding}
use Rattle.snzi_core.specs.declared.holding.Role.TheVariants.{Main}
use Rattle.snzi_core.specs.Holding.{tokens_at, amount_at}
use Rattle.snzi_core.specs.Shape.{WordKind, inner, leaf, stripe, Family}
use Rattle.snzi_core.specs.Balance.{total, up, Stands, Balanced, AtOrBelow, here, below, Covers, Present, Ruled}
use Rattle.snzi_core.proofs.NumberLists.{total_at}
use Rattle.snzi_core.proofs.Muster.{alone_tokens, alone_amounts}

up_pos : (n : ℕ) → 0 < n → up n ≡ 1
up_pos zero h = absurd (omega arith)
up_pos (suc n) h = refl

pos_up : (n : ℕ) → 0 < up n → 0 < n
pos_up zero h = absurd (omega arith)
pos_up (suc n) h = omega arith

pub past_end : (l : List ℕ) (i : ℕ) → length l ≤ i → slice_index l i ≡ 0
past_end [] i h = refl
past_end (x ∷ xs) zero h = absurd (omega arith)
past_end (x ∷ xs) (suc i) h = past_end xs i (omega arith)

-- some hand has part of a sum that is not zero
some_hand : (f : Holding → ℕ) (l : List Holding) → 0 < total f l → (id : ℕ) × (h : Holding) × (get_elem? l id ≡ some h) × (0 < f h)
some_hand f [] p = absurd (omega arith)
some_hand f (x ∷ xs) p = by_first (f x) refl (λ q. some_hand f xs q)
  where
    by_first : (n : ℕ) → f x ≡ n → (0 < total f xs → (id : ℕ) × (h : Holding) × (get_elem? xs id ≡ some h) × (0 < f h)) → (id : ℕ) × (h : Holding) × (get_elem? (x ∷ xs) id ≡ some h) × (0 < f h)
    by_first zero is next = let r = next (omega arith) in (suc r.0, r.1, r.2, r.3)
    by_first (suc n) is next = (0, x, refl, omega arith)

module _ (kind : ℕ → WordKind) (parent : ℕ → ℕ) (tree : Family kind parent) (words : List ℕ) (hands : List Holding) (was : Balanced kind words hands) where
  rise : (j : ℕ) → parent j ≢ j → 0 < slice_index words j → 0 < slice_index words (parent j)
  rise j apart p =
      let d = tree.child j apart in
      let u = up_pos (slice_index words j) p in
      ⊎_elim
      (λ (e : kind (parent j) ≡ inner j d.0). let s = subst (λ k. Stands words hands (parent j) k) e (was (parent j)) in omega (arith, s))
      (λ (e : kind (parent j) ≡ inner d.0 j). let s = subst (λ k. Stands words hands (parent j) k) e (was (parent j)) in omega (arith, s))
      d.1

  climb : (i j : ℕ) → AtOrBelow parent i j → 0 < slice_index words j → 0 < slice_index words i
  climb i j here p = p
  climb i j (below j' apart rest) p = climb i (parent j') rest (rise j' apart p)

  at_token : (j : ℕ) → kind j ≢ stripe → 0 < total (tokens_at j) hands → 0 < slice_index words j
  at_token j node p = by_line (kind j) refl (was j)
    where
      by_line : (k : WordKind) → kind j ≡ k → Stands words hands j k → 0 < slice_index words j
      by_line (inner a b) is s = omega arith
      by_line leaf is s = omega arith
      by_line stripe is s = absurd (node is)

  child_node : (j : ℕ) → parent j ≢ j → kind j ≢ stripe
  child_node j apart s =
      let d = tree.child j apart in
      ⊎_elim
      (λ (e : kind (parent j) ≡ inner j d.0). (tree.children (parent j) j d.0 e).4 s)
      (λ (e : kind (parent j) ≡ inner d.0 j). (tree.children (parent j) d.0 j e).5 s)
      d.1

  node_below : (i j : ℕ) → kind i ≢ stripe → AtOrBelow parent i j → kind j ≢ stripe
  node_below i j node here = node
  node_below i j node (below j' apart rest) = child_node j' apart

  pub present_positive : (i : ℕ) → kind i ≢ stripe → Present parent hands i → 0 < slice_index words i
  present_positive i node p =
      let j : ℕ = p.3.0 in
      let most = total_at (tokens_at p.3.0) hands p.0 p.1 p.2 in
      let h = p.3.2 in
      climb i p.3.0 p.3.1 (at_token p.3.0 (node_below i p.3.0 node p.3.1) (omega arith))

  join_below : (i a j : ℕ) → AtOrBelow parent i a → AtOrBelow parent a j → AtOrBelow parent i j
  join_below i a j up' here = up'
  join_below i a j up' (below j' apart rest) = below j' apart (join_below i a (parent j') up' rest)

  one_below : (i a : ℕ) → parent a ≡ i → i < a → AtOrBelow parent i a
  one_below i a is lower = below a (λ e. let x : i ≡ a = sym is ∙ e in omega arith) (subst (λ m. AtOrBelow parent i m) (sym is) here)

  from_below : (i a : ℕ) → AtOrBelow parent i a → Present parent hands a → Present parent hands i
  from_below i a le p = (p.0, p.1, p.2, (p.3.0, join_below i a p.3.0 le p.3.1, p.3.2))

  from_here : (i : ℕ) → 0 < total (tokens_at i) hands → Present parent hands i
  from_here i p = let r = some_hand (tokens_at i) hands p in (r.0, r.1, r.2, (i, here, r.3))

  sink : (fuel i : ℕ) → length words ≤ i + fuel → kind i ≢ stripe → 0 < slice_index words i → Present parent hands i
  sink zero i far node p = let z = past_end words i (omega arith) in absurd (omega arith)
  sink (suc fuel) i far node p = by_line (kind i) refl (was i) (λ m f n q. sink fuel m f n q)
    where
      by_line : (k : WordKind) → kind i ≡ k → Stands words hands i k → ((m : ℕ) → length words ≤ m + fuel → kind m ≢ stripe → 0 < slice_index words m → Present parent hands m) → Present parent hands i
      by_line (inner a b) is s next = let c = tree.children i a b is in dite (ℕ_discrete (up (slice_index words a)) 0)
          (λ za. dite (ℕ_discrete (up (slice_index words b)) 0)
          (λ zb. from_here i (omega arith))
          (λ nb. from_below i b (one_below i b c.1 (omega (arith, c.2, c.3))) (next b (omega (arith, c.2, c.3)) c.5 (pos_up (slice_index words b) (omega arith)))))
          (λ na. from_below i a (one_below i a c.0 c.2) (next a (omega (arith, c.2)) c.4 (pos_up (slice_index words a) (omega arith))))
      by_line leaf is s next = from_here i (omega arith)
      by_line stripe is s next = absurd (node is)

  pub positive_present : (i : ℕ) → kind i ≢ stripe → 0 < slice_index words i → Present parent hands i
  positive_present i node p = sink (length words) i (omega arith) node p

-- main, with no helper out, knows each stripe
pub main_sum : (kind : ℕ → WordKind) (words : List ℕ) (hands : List Holding) (id j : ℕ) (h : Holding) → Ruled kind words hands
    → get_elem? hands id ≡ some h → h.role ≡ Main 0 → kind j ≡ stripe → slice_index words j ≡ amount_at j h % 2 ^ 64
main_sum kind words hands id j h r at alone striped = subst (λ k. Stands words hands j k) striped (r.0 j) ∙ ap (λ (y : ℕ). y % 2 ^ 64) (alone_amounts hands id h r.1 at alone j)

-- and where a token is present
pub main_covers : (kind : ℕ → WordKind) (parent : ℕ → ℕ) (tree : Family kind parent) (words : List ℕ) (hands : List Holding) (id j : ℕ)
    (h : Holding) → Ruled kind words hands → get_elem? hands id ≡ some h → h.role ≡ Main 0 → kind j ≢ stripe → 0 < slice_index words j
    ↔ Covers parent h j
main_covers kind parent tree words hands id j h r at alone node = (
  (λ p.
      let t = positive_present kind parent tree words hands r.0 j node p in
      let most = total_at (tokens_at t.3.0) hands t.0 t.1 t.2 in
      let own = alone_tokens hands id h r.1 at alone t.3.0 in
      let have = t.3.2 in (t.3.0, t.3.1, omega arith)),
  (λ c. present_positive kind parent tree words hands r.0 j node (id, h, at, c)),
)
