use Rattle.std.proofs.Common.{arith}
use Rattle.indicator_laws.proofs.Rows.{leaf_deep, arrive_bound, triangle_next}
use Rattle.indicator_laws.proofs.boards.leaves_of_every_shape.Goals as goal

pub returns-clause-depth : goal.returns-clause-depth
returns-clause-depth c = leaf_deep

pub returns-clause-next : goal.returns-clause-next
returns-clause-next c = λ d. let e = triangle_next d in (omega (arith, e), omega arith)

pub returns-clause-bound : goal.returns-clause-bound
returns-clause-bound c = arrive_bound
