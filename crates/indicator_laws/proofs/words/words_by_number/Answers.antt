use Rattle.std.proofs.Common.{refl}
use Rattle.indicator_laws.proofs.WordLaws.{halves_is}
use Rattle.indicator_laws.proofs.words.words_by_number.Goals as goal

pub returns : goal.returns
returns c = record {
  leaves = (refl, refl, refl, refl);
  halves = halves_is;
  nodes = (refl, refl, refl, refl);
  stripes = (refl, refl, refl, refl);
  kinds = (refl, λ e. cc);
  tokens = (refl, refl, refl, refl);
  parents = (refl, refl, refl, refl);
  own_parents = (refl, refl, refl, refl);
}
