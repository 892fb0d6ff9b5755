-- Paths in a slot, and depths on them.
use Rattle.std.proofs.Common.{◌≡◌, ◌≢◌, ℕ, zero, suc, ◌+◌, ◌<◌, ◌≤◌, sym, refl, ap, ◌∙◌, subst, arith}
use mathlib.Core.Logic.{dite}
use native.Mathlib.Decide.{ℕ_discrete}
use Rattle.snzi_core.specs.declared.holding.Holding.{Holding}
use Rattle.snzi_core.specs.Holding.{tokens_at}
use Rattle.snzi_core.specs.Shape.{parent, IsShape, node_word}
use Rattle.snzi_core.specs.Balance.{AtOrBelow, here, below, Covers}
use Rattle.snzi_core.proofs.Shapes.{in_slot, from_slot}
use Rattle.snzi_tree.specs.Depths.{halved, OnPath, depth, depth_within, triangle}
use Rattle.snzi_tree.specs.Contents.{HasIn}

-- paths in a slot
pub path_up : (at node : ℕ) → OnPath node at → 0 < at → OnPath node (halved at)
path_up at node here pos = below at (λ e. omega arith) here
path_up at node (below node' apart rest) pos = below node' apart (path_up at (halved node') rest pos)

pub path_in : (at node : ℕ) → OnPath node at → node ≢ at → OnPath (halved node) at
path_in at node here ne = absurd (ne refl)
path_in at node (below node' apart rest) ne = rest

pub path_pos : (at node : ℕ) → OnPath node at → node ≢ at → 0 < node
path_pos at node here ne = absurd (ne refl)
path_pos at node (below node' apart rest) ne = dite (ℕ_discrete node' 0) (λ z. absurd (apart (ap halved z ∙ sym z))) (λ nz. omega arith)

-- a hand covers the root of a slot where it has a token in the slot
module _ (w l : ℕ) (shape : IsShape w (w + l)) (slot : ℕ) (h : Holding) (root : ℕ) (is : root ≡ node_word w l slot 0) where
  pub slot_covers : HasIn w l slot h → Covers (parent w (w + l)) h root
  slot_covers has = (node_word w l slot has.0, subst (λ r. AtOrBelow (parent w (w + l)) r (node_word w l slot has.0)) (sym is) (from_slot w (w + l) shape has.0 slot has.0 (omega arith) has.1), has.2)

  pub covers_slot : Covers (parent w (w + l)) h root → HasIn w l slot h
  covers_slot c =
      let r = in_slot w (w + l) shape slot c.0 (subst (λ x. AtOrBelow (parent w (w + l)) x c.0) is c.1) in
      (r.0, r.1, subst (λ j. 0 < tokens_at j h) r.2 c.2)

-- no more than the number of a node is needed to say how deep it stands
depth_same : (n m k : ℕ) → k ≤ n → k ≤ m → depth_within n k ≡ depth_within m k
depth_same zero zero k a b = refl
depth_same zero (suc m) zero a b = refl
depth_same zero (suc m) (suc k) a b = absurd (omega (arith, a))
depth_same (suc n) zero zero a b = refl
depth_same (suc n) zero (suc k) a b = absurd (omega (arith, b))
depth_same (suc n) (suc m) zero a b = refl
depth_same (suc n) (suc m) (suc k) a b = ap suc (depth_same n m (halved (suc k)) (omega (arith, a)) (omega (arith, b)))

-- a node stands one deeper than its parent
pub depth_up : (k : ℕ) → 0 < k → depth k ≡ suc (depth (halved k))
depth_up zero pos = absurd (omega (arith, pos))
depth_up (suc k) pos = ap suc (depth_same k (halved (suc k)) (halved (suc k)) (omega arith) (omega arith))

-- the steps down from a root to a node of this depth
abbrev pub down_steps : ℕ → ℕ
down_steps d = d + triangle d

pub down_next : (k at : ℕ) → halved k ≡ at → 0 < k → down_steps (depth k) ≡ down_steps (depth at) + (depth k + 1)
down_next k at is pos = deeper (depth k) (depth at) (depth_up k pos ∙ ap (λ (x : ℕ). suc (depth x)) is)
  where
    one : (d : ℕ) → down_steps (suc d) ≡ down_steps d + (suc d + 1)
    one d = omega arith

    deeper : (e d : ℕ) → e ≡ suc d → down_steps e ≡ down_steps d + (e + 1)
    deeper e d same = subst (λ (x : ℕ). down_steps x ≡ down_steps d + (x + 1)) (sym same) (one d)
