use Rattle.std.proofs.Common.{subst}
use Rattle.snzi_core.specs.Kept.{IsCore}
use Rattle.snzi_core.proofs.Words.{query_is}
use Rattle.snzi_core.proofs.machine.Core.query.Goals as goal

pub returns : goal.returns
returns g c = query_is c.args.self.now c.args.at.slot c.args.at.node c.word.result (subst IsCore c.self.view_is c.self.invariant) c.requires.1 c.word.ensures
