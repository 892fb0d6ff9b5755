use Rattle.std.proofs.Common.{arith}
use Rattle.snzi_core.proofs.TableRewrites.{is_without}
use Rattle.snzi_core.proofs.table.subtract_each.Goals as goal

pub returns : goal.returns
returns c = is_without c.args.table.now c.args.part.now c.loop-i.table c.loop-i.i (omega arith) c.loop-i.invariant
