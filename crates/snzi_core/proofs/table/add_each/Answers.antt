use Rattle.std.proofs.Common.{arith}
use Rattle.snzi_core.proofs.TableRewrites.{is_merged}
use Rattle.snzi_core.proofs.table.add_each.Goals as goal

pub returns : goal.returns
returns c = is_merged c.args.table.now c.args.part.now c.loop-i.table c.loop-i.i (omega arith) c.requires.len c.loop-i.invariant
