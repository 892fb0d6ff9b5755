use Rattle.std.specs.FinMap.{insert}
use Rattle.flat_model.specs.Step.{home_of}
use Rattle.charge_tests.proofs.CallBounds.{up_set}
use Rattle.charge_tests.proofs.changes.unmove.Goals as goal

pub returns-in-Ok : goal.returns-in-Ok
returns-in-Ok g c =
    let s = c.args.charges.now in
    record {
      up = λ n h. up_set n (record s { home = insert s.home c.args.pid c.args.path.now }) c.unmove.new.self (home_of s c.args.pid) c.args.peaks.now h
          (rw c.in-Ok.is at c.unmove.ensures.placed);
    }
