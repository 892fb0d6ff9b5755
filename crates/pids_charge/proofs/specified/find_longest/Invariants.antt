use Rattle.std.proofs.Common.{◌≡◌, ◌<◌, ◌≤◌, ℕ, None, length, take}
use Rattle.std.specs.FinMap as fin
use Rattle.pids_charge.proofs.specified.find_longest.Given as goal

abbrev pub invariant-loop-n : goal.invariant-loop-n
invariant-loop-n g l = record {
  inside : l.n ≤ length l.path;
  missing : (k : ℕ) → l.n < k → k ≤ length l.path → fin.get l.tree (take k l.path) ≡ None;
}

abbrev pub decreases-loop-n : goal.decreases-loop-n
decreases-loop-n g l = l.n
