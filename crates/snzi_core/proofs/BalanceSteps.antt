-- An event at a node keeps the balance, by what it changes in the hand.
use Rattle.std.proofs.Common.{◌≡◌, ◌≢◌, ℕ, zero, suc, ◌+◌, ◌-◌, ◌^◌, ◌<◌, ◌≤◌, List, length, set, refl, sym, ap, ◌∙◌, subst, arith}
use Rattle.std.specs.Prelude.{slice_index}
use mathlib.Core.Logic.{dite}
use native.Mathlib.Decide.{ℕ_discrete}
use mathlib.Core.Option.{some}
use lib.ListN.{get_elem?}
use Rattle.snzi_core.specs.declared.holding.Holding.{Holding}
use Rattle.snzi_core.specs.declared.holding.Role.TheVariants.{Spent}
use Rattle.snzi_core.specs.Holding.{tokens_at}
use Rattle.snzi_core.specs.Changes.{Gains, Loses, Moves, Raises}
use Rattle.snzi_core.specs.Shape.{WordKind, inner, leaf, stripe, Family}
use Rattle.snzi_core.specs.Balance.{up, Stands, Balanced, Within, Mustered}
use Rattle.snzi_core.proofs.NumberLists.{total_at}
use Rattle.snzi_core.proofs.OneWord.{node_law}
use Rattle.snzi_core.proofs.Muster.{muster_kept, each_at}

pub up_same : (m k : ℕ) → 0 < m → 0 < k → up m ≡ up k
up_same zero k p q = absurd (omega arith)
up_same (suc m) zero p q = absurd (omega arith)
up_same (suc m) (suc k) p q = refl

-- a word is at least what one hand has there
pub at_least : (kind : ℕ → WordKind) (words : List ℕ) (hands : List Holding) (id : ℕ) (v : Holding) → get_elem? hands id ≡ some v → (j : ℕ)
    → kind j ≢ stripe → Balanced kind words hands → tokens_at j v ≤ slice_index words j
at_least kind words hands id v at j node was = by_line (kind j) node (was j)
  where
    by_line : (k : WordKind) → k ≢ stripe → Stands words hands j k → tokens_at j v ≤ slice_index words j
    by_line (inner a b) ne s = let t = total_at (tokens_at j) hands id v at in omega arith
    by_line leaf ne s = let t = total_at (tokens_at j) hands id v at in omega arith
    by_line stripe ne s = absurd (ne refl)

module _ (kind : ℕ → WordKind) (parent : ℕ → ℕ) (tree : Family kind parent) (words : List ℕ) (hands : List Holding) (id j : ℕ) (v w : Holding)
    (at : get_elem? hands id ≡ some v) (inside : j < length words) (node : kind j ≢ stripe) where
  -- one more at a node whose parent does not hear of it
  pub add_balance : (parent j ≢ j → 0 < slice_index words j) → Gains j v w → Balanced kind words hands → Balanced kind (set words j (slice_index words j + 1)) (set hands id w)
  add_balance filled g was = node_law kind parent tree words hands id j (slice_index words j + 1) v w at inside node
      (let a = g.0 in omega arith)
      (λ apart. let e = g.1 (parent j) apart in
      let u : up (slice_index words j + 1) ≡ up (slice_index words j) =
      up_same (slice_index words j + 1) (slice_index words j) (omega arith) (filled apart) in omega arith)
      (λ i off _. g.1 i off) g.3 was

  -- the first at a node below a root uses up the token at the parent
  pub first_balance : parent j ≢ j → slice_index words j ≡ 0 → Moves (parent j) j v w → Balanced kind words hands → Balanced kind (set words j (slice_index words j + 1)) (set hands id w)
  first_balance apart none m was = node_law kind parent tree words hands id j (slice_index words j + 1) v w at inside node
      (let a = m.0 in omega arith)
      (λ _. let e = m.1 in let u : up (slice_index words j + 1) ≡ 1 = up_same (slice_index words j + 1) 1 (omega arith) (omega arith) in
      let z : up (slice_index words j) ≡ 0 = ap up none in omega arith)
      (λ i off_j off_p. m.2 i off_j off_p) m.4 was

  -- one less at a node whose parent does not hear of it
  pub leave_balance : (parent j ≢ j → slice_index words j ≢ 1) → Loses j v w → Balanced kind words hands → Balanced kind (set words j (slice_index words j - 1)) (set hands id w)
  leave_balance more l was =
      let some = at_least kind words hands id v at j node was in
      let a = l.0 in
      node_law kind parent tree words hands id j (slice_index words j - 1) v w at inside node
      (omega arith)
      (λ apart. let e = l.1 (parent j) apart in let ne = more apart in
      let u : up (slice_index words j - 1) ≡ up (slice_index words j) =
      up_same (slice_index words j - 1) (slice_index words j) (omega arith) (omega arith) in omega arith)
      (λ i off _. l.1 i off) l.3 was

  -- the last to leave a node below a root has a token at the parent instead
  pub last_balance : parent j ≢ j → slice_index words j ≡ 1 → Moves j (parent j) v w → Balanced kind words hands → Balanced kind (set words j (slice_index words j - 1)) (set hands id w)
  last_balance apart one m was = node_law kind parent tree words hands id j (slice_index words j - 1) v w at inside node
      (let a = m.1 in omega arith)
      (λ _. let e = m.0 in let u : up (slice_index words j - 1) ≡ 0 = ap (λ (x : ℕ). up (x - 1)) one in let z : up (slice_index words j) ≡ 1 = ap up one in omega arith)
      (λ i off_j off_p. m.2 i off_p off_j) m.4 was

-- the caps after an event of one hand
module _ (hands : List Holding) (id : ℕ) (v w : Holding) (m : Mustered hands) (at : get_elem? hands id ≡ some v) (alive : v.role ≢ Spent) where
  pub capped_muster : w.role ≡ v.role → ((i : ℕ) → tokens_at i w ≤ 2 ^ 40) → Mustered (set hands id w)
  capped_muster role cap = muster_kept hands id v w m at role (cap, λ s. absurd (alive (sym role ∙ s)))

  pub gain_muster : (j : ℕ) → tokens_at j v < 2 ^ 40 → Gains j v w → Mustered (set hands id w)
  gain_muster j room g = capped_muster g.4 (λ i. dite (ℕ_discrete i j)
      (λ e. subst (λ (x : ℕ). tokens_at x w ≤ 1099511627776) (sym e) (let a = g.0 in omega arith))
      (λ ne. let a = g.1 i ne in let b = (each_at Within hands id v m.3 at).0 i in omega arith))

  pub loss_muster : (j : ℕ) → Loses j v w → Mustered (set hands id w)
  loss_muster j l = capped_muster l.4 (λ i. dite (ℕ_discrete i j)
      (λ e. subst (λ (x : ℕ). tokens_at x w ≤ 1099511627776) (sym e) (let a = l.0 in let b = (each_at Within hands id v m.3 at).0 j in omega arith))
      (λ ne. let a = l.1 i ne in let b = (each_at Within hands id v m.3 at).0 i in omega arith))

  pub move_muster : (p j : ℕ) → tokens_at j v < 2 ^ 40 → Moves p j v w → Mustered (set hands id w)
  move_muster p j room g = capped_muster g.5 (λ i. dite (ℕ_discrete i j)
      (λ e. subst (λ (x : ℕ). tokens_at x w ≤ 1099511627776) (sym e) (let a = g.0 in omega arith))
      (λ ne. dite (ℕ_discrete i p)
      (λ e. subst (λ (x : ℕ). tokens_at x w ≤ 1099511627776) (sym e) (let a = g.1 in let b = (each_at Within hands id v m.3 at).0 p in omega arith))
      (λ np. let a = g.2 i ne np in let b = (each_at Within hands id v m.3 at).0 i in omega arith)))

  pub raise_muster : (j n : ℕ) → Raises j n v w → Mustered (set hands id w)
  raise_muster j n r = capped_muster r.3 (λ i. let a : tokens_at i w ≡ tokens_at i v = ap (λ (l : List ℕ). slice_index l i) r.2 in let b = (each_at Within hands id v m.3 at).0 i in omega arith)
