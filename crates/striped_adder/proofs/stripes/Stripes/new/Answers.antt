use Rattle.striped_adder.proofs.Wrap.{total-zero}
use Rattle.striped_adder.proofs.stripes.Stripes.new.Goals as goal

pub returns : goal.returns
returns g c = total-zero g.row.L
