use Rattle.std.proofs.Common.{◌≤◌, length}
use Rattle.std.specs.List.{All}
use Rattle.std.specs.Vec.{vec_capacity}
use Rattle.test_support.proofs.room.all_but.Given as goal

abbrev pub invariant-loop : goal.invariant-loop
invariant-loop l = record {
  few : length l.blocks.items ≤ l.counter;
  whole : All (λ block. 16 ≤ vec_capacity block) l.blocks.items;
}
