use Rattle.std.proofs.Common.{◌≡◌, ℕ, ◌+◌, ◌%◌, ◌∷◌, [], List, IsSome, option_copied, drop, get_or, length, map, sum_by, arith, sym, ap, ◌∙◌, subst}
use Rattle.std.specs.BTreeMap.{is_at}
use Rattle.std.specs.FinMap as fin
use Rattle.std.specs.List.Sorted.{IsStrictlySortedBy}
use Rattle.std.specs.Map.{values_of, keys_of}
use Rattle.std.specs.Ordering.{nat_cmp}
use Rattle.std.proofs.lemmas.List.Sums.{sum_by-cons}
use Rattle.flat_model.specs.Path.{Path}
use Rattle.pids_charge.specs.Lists.{Row, inside, is_inside, row_below, row_at}
use Rattle.pids_charge.specs.Recount.{charges_at}
use Rattle.process_table.specs.declared.process.Process.{Process}
use Rattle.pids_charge.proofs.TableCopies.{one_more_row, one_more_summed, all_rows, all_summed}
use Rattle.pids_charge.proofs.Gathers.{is_found, next_row, none_left, all_inside}
use Rattle.pids_charge.proofs.RowsAt.{found_value}
use Rattle.pids_charge.proofs.copy.copy_each.Goals as goal

pub unreachable-requires : goal.unreachable-requires
unreachable-requires g c =
    let es = c.args.processes.now in
    let are = c.as_slice-pid-items.ensures.value ∙ c.in_ok-pids.ensures ∙ ap (λ (q : Path). keys_of (inside q es)) c.in_ok-root.ensures in
    is_found (is_inside []) es c.known.ensures c.as_slice-pid-items.result.now are c.loop-pid.pid-index c.loop-pid-test.true (sym c.get.ensures ∙ ap option_copied c.in_default.is)

pub copy_one-requires-clause-home : goal.copy_one-requires-clause-home
copy_one-requires-clause-home g c =
    let k : ℕ = get_or c.as_slice-pid-items.result.now c.loop-pid.pid-index 0 in
    (found_value (λ p. IsSome (fin.get c.args.tree.now p.home) × (p.row ≡ row_at c.args.tree.now p.home)) (is_at (nat_cmp k))
    c.args.processes.now c.in-Some.process.now c.requires.homes (sym c.in-Some.ensures)).0

pub copy_one-requires-clause-row : goal.copy_one-requires-clause-row
copy_one-requires-clause-row g c =
    let k : ℕ = get_or c.as_slice-pid-items.result.now c.loop-pid.pid-index 0 in
    (found_value (λ p. IsSome (fin.get c.args.tree.now p.home) × (p.row ≡ row_at c.args.tree.now p.home)) (is_at (nat_cmp k))
    c.args.processes.now c.in-Some.process.now c.requires.homes (sym c.in-Some.ensures)).1

pub copy_one-requires-clause-room : goal.copy_one-requires-clause-room
copy_one-requires-clause-room g c =
    let es = c.args.processes.now in
    let are = c.as_slice-pid-items.ensures.value ∙ c.in_ok-pids.ensures ∙ ap (λ (q : Path). keys_of (inside q es)) c.in_ok-root.ensures in
    let i : ℕ = c.loop-pid.pid-index in
    let e : Row g.row.A.Denot = (get_or c.as_slice-pid-items.result.now i 0, c.in-Some.process.now) in
    let rest = drop (i + 1) (inside [] es) in
    let step : drop i (inside [] es) ≡ e ∷ rest = next_row (is_inside []) es c.known.ensures c.as_slice-pid-items.result.now are i c.loop-pid-test.true c.in-Some.process.now (sym c.in-Some.ensures) in
    let f = λ (p : Process g.row.A.Denot). length p.home in
    let first = ap (λ (fs : List (Row g.row.A.Denot)). sum_by f (values_of fs)) step ∙ sum_by-cons f e.1 (values_of rest) in
    let whole = ap (λ (fs : List (Row g.row.A.Denot)). sum_by f (values_of fs)) (all_inside es) in
    omega (arith, first, whole, c.loop-pid.invariant.held, c.requires.room)

pub loop-pid-preserved : goal.loop-pid-preserved
loop-pid-preserved g c =
    let es = c.args.processes.now in
    let are = c.as_slice-pid-items.ensures.value ∙ c.in_ok-pids.ensures ∙ ap (λ (q : Path). keys_of (inside q es)) c.in_ok-root.ensures in
    let i : ℕ = c.loop-pid.pid-index in
    let e : Row g.row.A.Denot = (get_or c.as_slice-pid-items.result.now i 0, c.in-Some.process.now) in
    let rest = drop (i + 1) (inside [] es) in
    let all = drop i (inside [] es) in
    let step : all ≡ e ∷ rest = next_row (is_inside []) es c.known.ensures c.as_slice-pid-items.result.now are i c.loop-pid-test.true c.in-Some.process.now (sym c.in-Some.ensures) in
    let ordered = subst (λ (fs : List (Row g.row.A.Denot)). IsStrictlySortedBy nat_cmp (keys_of fs)) (sym (all_inside es)) c.known.ensures in
    let done = c.in_ok-copy_one.ensures in
    record {
      rows = one_more_row g.row.B.Denot g.M.Meter.LEAVES e rest all (inside [] es) c.loop-pid.table c.copy_one.new.table ordered step done.put c.loop-pid.invariant.rows;
      content = λ s j. one_more_summed (λ p. charges_at c.args.tree.now p.home (p.leaf % g.M.Meter.LEAVES) s j) e rest all _ _ _ step (done.content s j) (c.loop-pid.invariant.content s j);
      held = one_more_summed (λ p. length p.home) e rest all _ _ _ step done.held c.loop-pid.invariant.held;
    }

pub returns-clause-rows : goal.returns-clause-rows
returns-clause-rows g c =
    let es = c.args.processes.now in
    let len = ap length (c.as_slice-pid-items.ensures.value ∙ c.in_ok-pids.ensures ∙ ap (λ (q : Path). keys_of (inside q es)) c.in_ok-root.ensures) in
    let none = none_left (inside [] es) c.loop-pid.pid-index (omega (arith, c.loop-pid-test.false, len)) in
    all_rows (row_below g.M.Meter.LEAVES) c.loop-pid.table (drop c.loop-pid.pid-index (inside [] es)) none c.loop-pid.invariant.rows ∙ ap (map (row_below g.M.Meter.LEAVES)) (all_inside es)

pub returns-clause-content : goal.returns-clause-content
returns-clause-content g c = λ s j.
    let es = c.args.processes.now in
    let len = ap length (c.as_slice-pid-items.ensures.value ∙ c.in_ok-pids.ensures ∙ ap (λ (q : Path). keys_of (inside q es)) c.in_ok-root.ensures) in
    let none = none_left (inside [] es) c.loop-pid.pid-index (omega (arith, c.loop-pid-test.false, len)) in
    all_summed (λ p. charges_at c.args.tree.now p.home (p.leaf % g.M.Meter.LEAVES) s j) (inside [] es) es
    (drop c.loop-pid.pid-index (inside [] es)) (g.M.Meter.content c.loop-pid.meter s j) (g.M.Meter.content c.args.meter.now s j) none
    (all_inside es) (c.loop-pid.invariant.content s j)

pub returns-clause-held : goal.returns-clause-held
returns-clause-held g c =
    let es = c.args.processes.now in
    let len = ap length (c.as_slice-pid-items.ensures.value ∙ c.in_ok-pids.ensures ∙ ap (λ (q : Path). keys_of (inside q es)) c.in_ok-root.ensures) in
    let none = none_left (inside [] es) c.loop-pid.pid-index (omega (arith, c.loop-pid-test.false, len)) in
    all_summed (λ p. length p.home) (inside [] es) es (drop c.loop-pid.pid-index (inside [] es)) (g.M.Meter.held c.loop-pid.meter)
    (g.M.Meter.held c.args.meter.now) none (all_inside es) c.loop-pid.invariant.held
