use Rattle.std.proofs.Common.{◌≡◌, ℕ, ◌+◌, drop, length, sum_by}
use Rattle.std.specs.Map.{values_of}
use Rattle.snzi_tokens.specs.Listed.{IsWithin, listed_at}
use Rattle.pids_charge.specs.Lists.{inside}
use Rattle.pids_charge.specs.Recount.{charges_of}
use Rattle.pids_charge.proofs.kill.gather.Given as goal

abbrev pub invariant-loop-pid : goal.invariant-loop-pid
invariant-loop-pid g l = record {
  counted : (s j : ℕ) → listed_at l.tokens.items s j
      + sum_by (λ p. charges_of l.tree p s j) (values_of (drop l.pid-index (inside l.path l.processes)))
      ≡ sum_by (λ p. charges_of l.tree p s j) (values_of (inside l.path l.processes));
  many : length l.tokens.items + sum_by (λ p. length p.home) (values_of (drop l.pid-index (inside l.path l.processes))) ≡ sum_by (λ p. length p.home) (values_of (inside l.path l.processes));
  within : IsWithin g.M.Meter.SLOTS g.M.Meter.LEAVES l.tokens.items;
}
