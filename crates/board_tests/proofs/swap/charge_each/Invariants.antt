use Rattle.std.proofs.Common.{◌≡◌, ℕ, ◌+◌, take}
use Rattle.snzi_tokens.specs.Listed.{listed_at}
use Rattle.board_tests.proofs.swap.charge_each.Given as goal

abbrev pub invariant-loop-token : goal.invariant-loop-token
invariant-loop-token g l = record {
  content : (s j : ℕ) → g.M.Meter.content l.meter s j ≡ g.M.Meter.content l.fn.meter s j + listed_at (take l.token-index l.arriving) s j;
  held : g.M.Meter.held l.meter ≡ g.M.Meter.held l.fn.meter + l.token-index;
}
