use Rattle.std.proofs.Common.{◌≡◌, take}
use Rattle.striped_adder.specs.Total.{total}
use Rattle.striped_adder.proofs.stripes.Stripes.sum.Given as goal

abbrev pub invariant-loop-word : goal.invariant-loop-word
invariant-loop-word g l = l.all ≡ total (take l.word-index l.word-items)
