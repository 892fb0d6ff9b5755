use Rattle.std.proofs.Common.{◌≡◌, ◌+◌, ◌++◌, vec_len}
use Rattle.std.specs.List.{flat_map}
use Rattle.flat_model.specs.Trace.{lines_in}
use Rattle.replay_main.proofs.reading.cut.Given as goal

abbrev pub invariant-loop : goal.invariant-loop
invariant-loop l =
    (vec_len l.pieces + 1 ≡ l.counter)
    × (flat_map (λ piece. lines_in piece.now) l.pieces.items ++ lines_in l.rest ≡ lines_in l.trace)
