use Rattle.charge_tests.proofs.CallBounds.{up_set}
use Rattle.charge_tests.proofs.changes.set_peaks.Goals as goal

pub returns : goal.returns
returns g c = record { up = λ n h. up_set n c.args.charges.now c.set_peaks.new.self c.args.path.now c.args.peaks.now h c.set_peaks.ensures }
