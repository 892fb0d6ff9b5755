use Rattle.std.proofs.Common.{◌≡◌, ℕ, ◌+◌, ◌++◌, ◌∷◌, List, drop, get_or, arith, sym, ap, ◌∙◌, append_assoc}
use Rattle.std.specs.BTreeMap.{is_at}
use Rattle.std.specs.Map.{lookup}
use Rattle.std.specs.Ordering.{nat_cmp}
use Rattle.std.proofs.lemmas.List.{drop_more}
use Rattle.pids_charge.specs.Lists.{Row, lost_each, lost_one, without_each}
use Rattle.pids_charge.proofs.kill.leave.Goals as goal

pub loop-pid-preserved : goal.loop-pid-preserved
loop-pid-preserved g c =
    let ks : List ℕ = c.args.pids.now in
    let i : ℕ = c.loop-pid.pid-index in
    let k : ℕ = get_or ks i 0 in
    let left : List ℕ = drop (i + 1) ks in
    let es : List (Row g.row.A.Denot) = c.loop-pid.processes in
    let before = c.loop-pid.lost.items in
    let told = c.leave_one.ensures in
    let held = c.loop-pid.invariant in
    let step : drop i ks ≡ k ∷ left = drop_more ks i 0 c.loop-pid-test.true in
    record {
      ordered = told.ordered;
      rest = ap (without_each left) told.stay ∙ sym (ap (λ (qs : List ℕ). without_each qs es) step) ∙ held.rest;
      listed = ap (λ xs. xs ++ lost_each left c.leave_one.new.processes) told.lost
          ∙ append_assoc before (lost_one k (lookup (is_at (nat_cmp k)) es)) (lost_each left c.leave_one.new.processes)
          ∙ ap (λ (fs : List (Row g.row.A.Denot)). before ++ (lost_one k (lookup (is_at (nat_cmp k)) es) ++ lost_each left fs)) told.stay
          ∙ sym (ap (λ (qs : List ℕ). before ++ lost_each qs es) step) ∙ held.listed;
      many = omega (arith, told.len, held.many);
      room = omega (arith, told.capacity, held.room);
    }
