use Rattle.std.proofs.Common.{◌<◌, ◌≤◌, rules, tests}
use Rattle.std.proofs.lemmas.Iterator.{cases_from_any, YieldsList-from_slice}
use Rattle.pids_charge.proofs.PositiveSums.{sum_positive}
use Rattle.pids_charge.proofs.plain.Row.populated.Goals as goal

pub returns : goal.returns
returns c =
    let xs = c.self.inside.leaves in
    let by_call = cases_from_any _ _ _ (λ x. 0 < x) (λ x. x ≤ 0) c.any.ensures.ran (YieldsList-from_slice xs cc) (λ x q k. search (rules, tests)) (λ x q k. search (rules, tests)) in
    rw (← c.self.view_is) (sum_positive _ xs by_call)
