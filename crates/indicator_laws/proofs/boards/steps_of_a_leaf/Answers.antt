use Rattle.indicator_laws.proofs.Rows.{leaf_deep, steps_at}
use Rattle.indicator_laws.proofs.boards.steps_of_a_leaf.Goals as goal

pub returns-clause-three : goal.returns-clause-three
returns-clause-three c = λ leaf low. steps_at 3 leaf 1 (leaf_deep 1 leaf low)

pub returns-clause-seven : goal.returns-clause-seven
returns-clause-seven c = λ leaf low. steps_at 7 leaf 2 (leaf_deep 2 leaf low)

pub returns-clause-fifteen : goal.returns-clause-fifteen
returns-clause-fifteen c = λ leaf low. steps_at 15 leaf 3 (leaf_deep 3 leaf low)
