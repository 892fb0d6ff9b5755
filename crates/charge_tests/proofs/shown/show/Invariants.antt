use Rattle.std.proofs.Common.{◌≡◌}
use Rattle.charge_tests.proofs.shown.show.Given as goal

abbrev pub invariant-loop : goal.invariant-loop
invariant-loop g l = record { kept : l.charges ≡ l.fn.charges }
