use Rattle.snzi_core.proofs.Muster.{word_small}
use Rattle.snzi_core.proofs.laws.words_are_small.Goals as goal

pub returns : goal.returns
returns c = λ kind words hands j node ruled. word_small kind words hands j node ruled
