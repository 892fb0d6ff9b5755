use Rattle.std.proofs.Common.{[], ◌+◌, refl}
use Rattle.std.specs.Prelude.{slice_index}
use Rattle.snzi_core.proofs.Hands.{parts, unites}
use Rattle.snzi_core.proofs.NumberLists.{at_put_same, at_put_else}
use Rattle.indicator_laws.proofs.boards.views_are_exact.Goals as goal

pub returns-clause-planned : goal.returns-clause-planned
returns-clause-planned c = λ v i. (refl, at_put_same v.plan i (slice_index v.plan i + 1), λ j apart. at_put_else v.plan i j (slice_index v.plan i + 1) apart)

pub returns-clause-split : goal.returns-clause-split
returns-clause-split c = λ v main fits. parts v.holding v.plan [] main fits (λ i. refl)

pub returns-clause-join : goal.returns-clause-join
returns-clause-join c = λ v k main helper. (unites v.holding k.holding main helper, refl)
