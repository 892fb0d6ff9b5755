use Rattle.std.proofs.Common.{◌≡◌, ◌≤◌, IsSome, length}
use Rattle.std.specs.FinMap as fin
use Rattle.flat_model.specs.Path.{Path}
use Rattle.snzi_tokens.specs.Listed.{IsWithin, listed_at}
use Rattle.pids_charge.specs.Lists.{row_at}
use Rattle.pids_charge.proofs.WalkCharges.{HasCharged}
use Rattle.pids_charge.proofs.walk.push_up.Given as goal

abbrev pub invariant-loop-up : goal.invariant-loop-up
invariant-loop-up g l = record {
  bound : l._up ≤ 32;
  way : (p : Path) → IsSome (fin.get l.tree p) → l.row ≡ row_at l.tree p
      → HasCharged l.tree p l.leaf l._up l.at (listed_at l.fn.tokens.items) (listed_at l.tokens.items) (length l.fn.tokens.items) (length l.tokens.items);
  within : IsWithin g.M.Meter.SLOTS g.M.Meter.LEAVES l.tokens.items;
}
