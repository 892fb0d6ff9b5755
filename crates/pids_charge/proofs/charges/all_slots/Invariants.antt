use Rattle.std.proofs.Common.{◌≤◌}
use Rattle.std.specs.Vec.{vec_capacity}
use Rattle.pids_charge.proofs.FreeSlots.{AreFreeFrom}
use Rattle.pids_charge.proofs.charges.all_slots.Given as goal

abbrev pub invariant-loop-slot : goal.invariant-loop-slot
invariant-loop-slot g l = record {
  bound : l.slot ≤ l.slots;
  free : AreFreeFrom l.slot l.slots l.free.items;
  room : l.slots ≤ vec_capacity l.free;
}
