use Rattle.std.proofs.Common.{◌≡◌, ◌≤◌, IsSome}
use Rattle.std.specs.FinMap as fin
use Rattle.flat_model.specs.Path.{Path}
use Rattle.pids_charge.specs.Lists.{row_at}
use Rattle.pids_charge.proofs.WalkNotes.{HasNoted}
use Rattle.pids_charge.proofs.notes.note_up.Given as goal

abbrev pub invariant-loop-up : goal.invariant-loop-up
invariant-loop-up g l = record {
  bound : l._up ≤ 32;
  way : (p : Path) → IsSome (fin.get l.tree p) → l.row ≡ row_at l.tree p → HasNoted l.tree p l._up l.at l.notes;
}
