use Rattle.std.proofs.Common.{◌≡◌, ℕ, ◌+◌, ◌-◌, ◌<◌, ◌≤◌, get_or, length, vec_len}
use Rattle.pids_charge.specs.declared.group.Group.{Group}
use Rattle.pids_charge.proofs.groups.lengthen.Given as goal

abbrev pub invariant-loop-rows : goal.invariant-loop-rows
invariant-loop-rows g l = record {
  kept : (k : ℕ) (d : Group) → k < length l.fn.rows.items → get_or l.rows.items k d ≡ get_or l.fn.rows.items k d;
  longer : length l.fn.rows.items ≤ length l.rows.items;
}

abbrev pub decreases-loop-rows : goal.decreases-loop-rows
decreases-loop-rows g l = l.row + 1 - vec_len l.rows
