use Rattle.std.proofs.Common.{arith}
use Rattle.snzi_core.proofs.TableRewrites.{is_wrapped}
use Rattle.snzi_core.proofs.table.wrapping_add_each.Goals as goal

pub returns : goal.returns
returns c = is_wrapped c.args.table.now c.args.part.now c.loop-i.table c.loop-i.i (omega arith) c.requires c.loop-i.invariant
