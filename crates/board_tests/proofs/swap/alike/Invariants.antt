use Rattle.std.proofs.Common.{◌≡◌}
use Rattle.board_tests.proofs.swap.alike.Given as goal

abbrev pub invariant-loop-slot : goal.invariant-loop-slot
invariant-loop-slot g l = record {
  one : g.M.Meter.content l.one ≡ g.M.Meter.content l.fn.one;
  one_held : g.M.Meter.held l.one ≡ g.M.Meter.held l.fn.one;
  other : g.N.Meter.content l.other ≡ g.N.Meter.content l.fn.other;
  other_held : g.N.Meter.held l.other ≡ g.N.Meter.held l.fn.other;
}
