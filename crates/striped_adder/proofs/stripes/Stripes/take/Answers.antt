use Rattle.std.proofs.Common.{◌-◌, ◌^◌, arith}
use Rattle.striped_adder.proofs.Wrap.{total-add}
use Rattle.striped_adder.proofs.stripes.Stripes.take.Goals as goal

pub returns : goal.returns
returns g c = rw (← c.self.view_is) (total-add c.self.inside.words c.args.stripe (2 ^ 64 - c.args.n) (omega arith))
