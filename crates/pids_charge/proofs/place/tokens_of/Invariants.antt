use Rattle.std.proofs.Common.{◌≡◌, ℕ, length, take, sum_by}
use Rattle.snzi_tokens.specs.Listed.{IsWithin, listed_at}
use Rattle.pids_charge.specs.Recount.{charges_at}
use Rattle.pids_charge.proofs.place.tokens_of.Given as goal

abbrev pub invariant-loop-lost : goal.invariant-loop-lost
invariant-loop-lost g l = record {
  counted : (s j : ℕ) → listed_at l.tokens.items s j ≡ sum_by (λ x. charges_at l.tree x.path l.leaf s j) (take l.lost-index l.list);
  many : length l.tokens.items ≡ sum_by (λ x. length x.path) (take l.lost-index l.list);
  within : IsWithin g.M.Meter.SLOTS g.M.Meter.LEAVES l.tokens.items;
}
