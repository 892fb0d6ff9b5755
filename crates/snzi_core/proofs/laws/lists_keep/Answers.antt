use Rattle.snzi_core.specs.CoreState.{start}
use Rattle.snzi_core.proofs.Keeps.{runs_core}
use Rattle.snzi_core.proofs.Start.{start_core, odd_nodes}
use Rattle.snzi_core.proofs.laws.lists_keep.Goals as goal

pub returns : goal.returns
returns c = λ slots nodes events k shape runs. (runs_core (start slots nodes) k events (start_core slots nodes (odd_nodes nodes shape)) runs).rule
