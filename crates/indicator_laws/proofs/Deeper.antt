-- What stands above a node: the root, and only what is less deep.
use Rattle.std.proofs.Common.{◌≢◌, ℕ, zero, suc, ◌<◌, ◌≤◌, sym, refl, ap, ◌∙◌, subst, arith}
use mathlib.Core.Logic.{dite}
use native.Mathlib.Decide.{ℕ_discrete}
use Rattle.snzi_core.specs.Balance.{here, below}
use Rattle.snzi_tree.specs.Depths.{halved, OnPath, depth}
use Rattle.snzi_tree.proofs.NodePaths.{depth_up}

from_root : (n k : ℕ) → k ≤ n → OnPath k 0
from_root zero k l = subst (λ (j : ℕ). OnPath j 0) (omega (arith, l)) here
from_root (suc n) k l = dite (ℕ_discrete k 0)
    (λ z. subst (λ (j : ℕ). OnPath j 0) (sym z) here)
    (λ nz. below k (λ e. nz (omega (arith, e))) (from_root n (halved k) (omega arith)))

pub root_first : (k : ℕ) → OnPath k 0
root_first k = from_root k k (omega arith)

pub path_smaller : (at node : ℕ) → OnPath node at → at ≤ node
path_smaller at node here = omega arith
path_smaller at node (below node' apart rest) = let l = path_smaller at (halved node') rest in omega arith

less_deep : (at node : ℕ) → OnPath node at → depth at ≤ depth node
less_deep at node here = omega arith
less_deep at node (below node' apart rest) = dite (ℕ_discrete node' 0)
    (λ z. absurd (apart (ap halved z ∙ sym z)))
    (λ nz. let l = less_deep at (halved node') rest in let e = depth_up node' (omega arith) in omega arith)

pub path_higher : (at node : ℕ) → OnPath node at → at ≢ node → depth at < depth node
path_higher at node here ne = absurd (ne refl)
path_higher at node (below node' apart rest) ne = dite (ℕ_discrete node' 0)
    (λ z. absurd (apart (ap halved z ∙ sym z)))
    (λ nz. let l = less_deep at (halved node') rest in let e = depth_up node' (omega arith) in omega arith)
