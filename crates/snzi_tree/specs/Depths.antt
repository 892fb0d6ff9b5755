-- How deep a node is, and how many steps a call may take.
use Rattle.std.specs.Prelude.{ℕ, zero, suc, ◌+◌, ◌-◌, ◌*◌, ◌/◌}
use Rattle.snzi_core.specs.Balance.{AtOrBelow}

-- the parent's number in a slot
abbrev pub halved : ℕ → ℕ
halved k = (k - 1) / 2

-- `at` is the node or is above it
abbrev pub OnPath : ℕ → ℕ → Type 0
OnPath node at = AtOrBelow halved at node

-- the depth of a node, if it is at most n
abbrev pub depth_within : ℕ → ℕ → ℕ
depth_within zero k = 0
depth_within (suc n) zero = 0
depth_within (suc n) (suc k) = suc (depth_within n (halved (suc k)))

-- the depth of a node: 0 for a root, and one more than its parent's for every other node
abbrev pub depth : ℕ → ℕ
depth k = depth_within k k

-- the depth of a leaf among w nodes
abbrev pub leaf_depth : ℕ → ℕ → ℕ
leaf_depth w leaf = depth ((w - 1) / 2 + leaf)

-- 1 + 2 + .. + d
abbrev pub triangle : ℕ → ℕ
triangle zero = 0
triangle (suc d) = triangle d + (d + 1)

-- the most steps of an arrival at a node of this depth, and of a departure from it
abbrev pub arrive_steps : ℕ → ℕ
arrive_steps d = 1 + 3 * d + triangle d

abbrev pub depart_steps : ℕ → ℕ
depart_steps d = d + 1
