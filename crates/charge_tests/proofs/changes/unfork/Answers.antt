use Rattle.std.specs.FinMap.{remove}
use Rattle.flat_model.specs.Step.{home_of}
use Rattle.charge_tests.proofs.CallBounds.{up_set}
use Rattle.charge_tests.proofs.changes.unfork.Goals as goal

pub returns : goal.returns
returns g c =
    let s = c.args.charges.now in
    record { up = λ n h. up_set n (record s { home = remove s.home c.args.pid }) c.unfork.new.self (home_of s c.args.pid) c.args.peaks.now h c.unfork.ensures }
