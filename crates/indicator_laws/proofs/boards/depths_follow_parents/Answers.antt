use Rattle.std.proofs.Common.{◌∙◌}
use Rattle.snzi_core.specs.Balance.{here}
use Rattle.snzi_tree.specs.Depths.{halved, depth}
use Rattle.snzi_tree.proofs.NodePaths.{depth_up}
use Rattle.indicator_laws.proofs.Deeper.{root_first, path_smaller, path_higher}
use Rattle.indicator_laws.proofs.Rows.{one_more}
use Rattle.indicator_laws.proofs.boards.depths_follow_parents.Goals as goal

pub returns-clause-parents : goal.returns-clause-parents
returns-clause-parents c = λ k pos. depth_up k pos ∙ one_more (depth (halved k))

pub returns-clause-own : goal.returns-clause-own
returns-clause-own c = λ k. here

pub returns-clause-first : goal.returns-clause-first
returns-clause-first c = root_first

pub returns-clause-smaller : goal.returns-clause-smaller
returns-clause-smaller c = path_smaller

pub returns-clause-higher : goal.returns-clause-higher
returns-clause-higher c = path_higher
