use Rattle.std.proofs.Common.{option_copied, List, None, sum_by, arith, IsSome, subst, drop, get_or, length, ◌≡◌, ℕ, ◌+◌, ◌∷◌, sym, ap, ◌∙◌}
use Rattle.std.specs.BTreeMap.{is_at}
use Rattle.std.specs.Map.{values_of}
use Rattle.std.specs.Ordering.{nat_cmp}
use Rattle.flat_model.specs.Path.{Path}
use Rattle.group_tree.specs.declared.attr.Attr.{Attr}
use Rattle.pids_charge.specs.Lists.{Row, inside, is_inside}
use Rattle.pids_charge.specs.Recount.{IsPlaced, charges_of}
use Rattle.pids_charge.proofs.TableCopies.{one_more_summed}
use Rattle.pids_charge.proofs.Gathers.{is_found, next_row, none_left}
use Rattle.pids_charge.proofs.RowsAt.{found_value}
use Rattle.pids_charge.proofs.kill.gather.Goals as goal

pub unreachable-requires : goal.unreachable-requires
unreachable-requires g c = let none : IsSome {T = Attr} None = subst IsSome c.in_default.ensures c.requires.group in cc

pub unreachable-requires-in_default-get : goal.unreachable-requires-in_default-get
unreachable-requires-in_default-get g c =
    is_found (is_inside c.args.path.now) c.args.processes.now c.known.ensures c.as_slice-pid-items.result.now
    (c.as_slice-pid-items.ensures.value
    ∙ c.in_ok-pids.ensures c.args.path.now c.requires.group c.in-Some.ensures.1) c.loop-pid.pid-index c.loop-pid-test.true (sym c.get.ensures
    ∙ ap option_copied c.in_default-get.is)

pub push_up-requires-clause-leaf_below : goal.push_up-requires-clause-leaf_below
push_up-requires-clause-leaf_below g c =
    let k : ℕ = get_or c.as_slice-pid-items.result.now c.loop-pid.pid-index 0 in
    (found_value (λ p. IsPlaced g.M.Meter.LEAVES c.args.tree.now p) (is_at (nat_cmp k)) c.args.processes.now c.in-Some-get.process.now c.requires.placed (sym c.in-Some-get.ensures)).leaf_below

pub push_up-requires-clause-group : goal.push_up-requires-clause-group
push_up-requires-clause-group g c =
    let k : ℕ = get_or c.as_slice-pid-items.result.now c.loop-pid.pid-index 0 in
    let placed = (found_value (λ p. IsPlaced g.M.Meter.LEAVES c.args.tree.now p) (is_at (nat_cmp k)) c.args.processes.now c.in-Some-get.process.now c.requires.placed (sym c.in-Some-get.ensures)) in
    record { path = c.in-Some-get.process.now.home; there = placed.home; here = placed.row }

pub loop-pid-preserved : goal.loop-pid-preserved
loop-pid-preserved g c =
    let es = c.args.processes.now in
    let i : ℕ = c.loop-pid.pid-index in
    let e : Row g.row.A.Denot = (get_or c.as_slice-pid-items.result.now i 0, c.in-Some-get.process.now) in
    let rest = drop (i + 1) (inside c.args.path.now es) in
    let all = drop i (inside c.args.path.now es) in
    let step : all ≡ e ∷ rest =
    next_row (is_inside c.args.path.now) es c.known.ensures c.as_slice-pid-items.result.now (c.as_slice-pid-items.ensures.value
    ∙ c.in_ok-pids.ensures c.args.path.now c.requires.group c.in-Some.ensures.1) i c.loop-pid-test.true c.in-Some-get.process.now (sym c.in-Some-get.ensures) in
    let told = c.in_ok-push_up.ensures in
    let k : ℕ = get_or c.as_slice-pid-items.result.now i 0 in
    let placed = (found_value (λ p. IsPlaced g.M.Meter.LEAVES c.args.tree.now p) (is_at (nat_cmp k)) c.args.processes.now c.in-Some-get.process.now c.requires.placed (sym c.in-Some-get.ensures)) in
    let home : Path = c.in-Some-get.process.now.home in
    record {
      counted = λ s j. one_more_summed (λ p. charges_of c.args.tree.now p s j) e rest all _ _ _ step (told.counted home placed.home placed.row s j) (c.loop-pid.invariant.counted s j);
      many = one_more_summed (λ p. length p.home) e rest all _ _ _ step (told.many home placed.home placed.row) c.loop-pid.invariant.many;
      within = told.within;
    }

pub returns-clause-pids : goal.returns-clause-pids
returns-clause-pids g c = c.in_ok-pids.ensures c.args.path.now c.requires.group c.in-Some.ensures.1

pub returns-clause-many : goal.returns-clause-many
returns-clause-many g c =
    let rows : List (Row g.row.A.Denot) = inside c.args.path.now c.args.processes.now in
    let pids = ap length (c.as_slice-pid-items.ensures.value ∙ c.in_ok-pids.ensures c.args.path.now c.requires.group c.in-Some.ensures.1) in
    let left = none_left rows c.loop-pid.pid-index (omega (arith, pids, c.loop-pid-test.false)) in
    omega (arith, c.loop-pid.invariant.many, ap (λ (es : List (Row g.row.A.Denot)). sum_by (λ x. length x.home) (values_of es)) left)
