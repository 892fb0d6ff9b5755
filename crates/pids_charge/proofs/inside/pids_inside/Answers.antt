use Rattle.std.proofs.Common.{count_by, eqb, ◌∙◌, ap, sym, arith}
use Rattle.std.specs.BTreeMap.{is_at}
use Rattle.std.specs.Map.{lookup}
use Rattle.std.specs.Ordering.{nat_cmp}
use Rattle.process_table.proofs.ChosenPids.{chosen_start, chosen_more}
use Rattle.pids_charge.specs.Lists.{is_inside}
use Rattle.pids_charge.proofs.Gathers.{listed_pids}
use Rattle.pids_charge.proofs.RowsInside.{chosen_all, row_below}
use Rattle.pids_charge.proofs.inside.pids_inside.Goals as goal

pub loop-at-init : goal.loop-at-init
loop-at-init g c = λ p i t q. ap (count_by (eqb q)) c.new-pids.ensures.items ∙ sym (chosen_start p (lookup (is_at (nat_cmp q)) c.args.processes.now))

pub loop-at-preserved : goal.loop-at-preserved
loop-at-preserved g c = λ p i t q.
    let one = c.in_ok-append_row.ensures p i t q in
    let more = chosen_more c.loop-at.at p (lookup (is_at (nat_cmp q)) c.args.processes.now) in
    omega (arith, one, more, c.loop-at.invariant p i t q)

pub returns : goal.returns
returns g c = λ p i t.
    listed_pids (is_inside p) c.args.processes.now c.known.ensures c.loop-at.pids.items c.sort_unstable.new.self.items
    c.sort_unstable.ensures.permutation c.sort_unstable.ensures.sorted (λ q. c.loop-at.invariant p i t q
    ∙ chosen_all g.M.Meter.LEAVES c.args.tree.now c.args.processes.now c.requires.placed c.loop-at.at (λ r j.
    let inside = c.rows.ensures r j in
    let low = row_below g.M.Meter.SLOTS c.args.tree.now c.requires.slots r j in
    omega (arith, inside, low)) p q)
