use Rattle.std.proofs.Common.{◌≡◌, ℕ, ◌-◌, ◌∷◌, List, drop, arith, sym, ap, ◌∙◌, subst}
use Rattle.std.specs.BTreeMap.{insert_entry}
use Rattle.std.specs.List.{All}
use Rattle.std.specs.Ordering.{nat_cmp}
use Rattle.std.proofs.lemmas.List.Elements.{All-cons}
use Rattle.flat_model.specs.CommandText.{IsPid}
use Rattle.pids_charge.specs.Lists.{Row, with_lost, placed_at}
use Rattle.pids_charge.specs.declared.lost.Lost.{Lost}
use Rattle.pids_charge.proofs.Entries.{of_ok}
use Rattle.pids_charge.proofs.ListedProcesses.{one_before}
use Rattle.pids_charge.proofs.place.place_last.Goals as goal

pub loop-at-preserved : goal.loop-at-preserved
loop-at-preserved g c =
    let ls : List (Lost g.row.B.Denot) = c.args.list.now in
    let n : ℕ = c.loop-at.at in
    let l : Lost g.row.B.Denot = c.index-list-at.result in
    let held = c.loop-at.invariant in
    let step : drop (n - 1) ls ≡ l ∷ drop n ls = one_before ls n l (omega arith) held.bound c.index-list-at.is in
    let put = of_ok c.place_one.result (c.place_one.new.processes
    ≡ insert_entry nat_cmp c.loop-at.processes l.pid (placed_at c.args.tree.now c.args.leaf l)) (sym c.is_err.ensures.value
    ∙ c.if-is_err.false) c.place_one.ensures.placed in
    record {
      bound = omega (arith, held.bound);
      placed = put ∙ ap (λ (es : List (Row g.row.A.Denot)). insert_entry nat_cmp es l.pid (placed_at c.args.tree.now c.args.leaf l)) held.placed
          ∙ sym (ap (λ (qs : List (Lost g.row.B.Denot)). with_lost c.args.tree.now c.args.leaf qs c.args.processes.now) step);
      pids = subst (All (λ x. IsPid x.pid)) (sym step) (All-cons (λ x. IsPid x.pid) l (drop n ls) c.place_one.ensures.pid held.pids);
    }
