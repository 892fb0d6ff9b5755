use Rattle.std.proofs.Common.{◌≡◌, ◌↔◌, ℕ, ◌<◌, ◌≤◌, None, false, length, get_or}
use Rattle.std.specs.Prelude.{IsTrue}
use Rattle.sessions.specs.Waits.{IsDue, IsLeft, IsNoLater}
use Rattle.sessions.proofs.waits.due_of.Given as goal

abbrev pub invariant-loop-at : goal.invariant-loop-at
invariant-loop-at l = record {
  many_due : length l.due ≡ 8;
  many : length l.waits ≡ 8;
  due : (k : ℕ) → k < l.at → IsTrue (get_or l.due k false) ↔ IsDue l.reached (get_or l.fn.waits k None);
  left : (k : ℕ) → k < l.at → IsLeft l.reached (get_or l.fn.waits k None) (get_or l.waits k None);
  kept : (k : ℕ) → l.at ≤ k → get_or l.waits k None ≡ get_or l.fn.waits k None;
  first : (k : ℕ) → k < l.at → IsNoLater (get_or l.waits k None) l.first;
}
