use Rattle.std.proofs.Common.{arith}
use Rattle.indicator_laws.proofs.WordLaws.{at_the_leaf, at_the_root, not_elsewhere}
use Rattle.indicator_laws.proofs.words.tokens_that_are_present.Goals as goal

pub returns : goal.returns
returns c = record {
  leaf = at_the_leaf;
  root = at_the_root;
  beside = not_elsewhere 2 (omega arith);
  elsewhere = not_elsewhere 5 (omega arith);
}
