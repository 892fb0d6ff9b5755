use Rattle.std.proofs.Common.{arith}
use Rattle.striped_adder.proofs.Wrap.{total-add}
use Rattle.striped_adder.proofs.stripes.Stripes.add.Goals as goal

pub returns : goal.returns
returns g c = rw (← c.self.view_is) (total-add c.self.inside.words c.args.stripe c.args.n (omega arith))
