use Rattle.std.proofs.Common.{◌≡◌, ℕ, ◌+◌, ◌-◌, ◌≤◌, arith, is_some, length, take, option_copied, sym, ap, ◌∙◌, subst}
use Rattle.std.proofs.lemmas.Bool.{false≢true}
use Rattle.flat_model.specs.Path.{Path}
use Rattle.flat_model.specs.State.{State}
use Rattle.flat_model.specs.Step.{home_of, at_each, count_up}
use Rattle.flat_model.proofs.PathLaws.{take_above}
use Rattle.group_tree.specs.Flat.{group_of}
use Rattle.pids_charge.specs.Lists.{row_at}
use Rattle.pids_charge.specs.Recount.{state_of}
use Rattle.pids_charge.proofs.FlatGroups.{group-at, process-is}
use Rattle.pids_charge.proofs.FlatTotals.{flat-counts, raised, same_slots, up_each}
use Rattle.pids_charge.proofs.Changes.{slots_stay, charges_stay}
use Rattle.pids_charge.proofs.MeterContents.{found_placed}
use Rattle.pids_charge.proofs.ForkOutcomes.{home_at}
use Rattle.pids_charge.proofs.charges.Charges.count_fork.Goals as goal

pub unreachable-requires : goal.unreachable-requires
unreachable-requires g c =
    let gone = process-is c.args.self.now c.self.inside.tree c.self.inside.processes c.self.view_is c.self.invariant.recounted.ordered
    c.args.parent ∙ ap is_some (sym c.find_row.ensures ∙ ap option_copied c.in_default.is) in
    absurd (false≢true (sym gone ∙ c.requires.parent))

pub overflow_sub-levels : goal.overflow_sub-levels
overflow_sub-levels g c =
    let at_home = home_at _ _ _ _ _ c.self.invariant.recounted c.args.self.now c.self.view_is c.args.parent c.in-Some.process.now (sym c.find_row.ensures ∙ ap option_copied c.in-Some.is) in
    omega (arith, c.requires.at, ap length at_home, c.depth.ensures)

pub row_up-at-requires : goal.row_up-at-requires
row_up-at-requires g c =
    let placed = found_placed _ _ _ _ _ c.self.invariant.recounted c.args.parent c.in-Some.process.now (sym c.find_row.ensures ∙ ap option_copied c.in-Some.is) in
    record { group = record { path = c.in-Some.process.now.home; there = placed.home; here = placed.row } }

pub change_totals-requires-clause-group : goal.change_totals-requires-clause-group
change_totals-requires-clause-group g c =
    let home : Path = c.in-Some.process.now.home in
    let placed = found_placed _ _ _ _ _ c.self.invariant.recounted c.args.parent c.in-Some.process.now (sym c.find_row.ensures ∙ ap option_copied c.in-Some.is) in
    let at_home = home_at _ _ _ _ _ c.self.invariant.recounted c.args.self.now c.self.view_is c.args.parent c.in-Some.process.now (sym c.find_row.ensures ∙ ap option_copied c.in-Some.is) in
    let within : c.args.n ≤ length home = subst (λ (q : Path). c.args.n ≤ length q) at_home c.requires.at in
    let left : length home - (c.depth.result - c.args.n) ≡ c.args.n = omega (arith, within, c.depth.ensures) in
    let there = c.known.ensures.prefixes home (take c.args.n home) placed.home (take_above c.args.n home) in
    let here = c.row_up-at.ensures home placed.home placed.row ∙ ap (λ (k : ℕ). row_at c.self.inside.tree (take k home)) left in
    record { path = take c.args.n home; there = there; here = here }

pub invariant_of-self : goal.invariant_of-self
invariant_of-self g c =
    let tree = c.self.inside.tree in
    let a : Path = take c.args.n c.in-Some.process.now.home in
    let home : Path = c.in-Some.process.now.home in
    let placed = found_placed _ _ _ _ _ c.self.invariant.recounted c.args.parent c.in-Some.process.now (sym c.find_row.ensures ∙ ap option_copied c.in-Some.is) in
    let at_home = home_at _ _ _ _ _ c.self.invariant.recounted c.args.self.now c.self.view_is c.args.parent c.in-Some.process.now (sym c.find_row.ensures ∙ ap option_copied c.in-Some.is) in
    let within : c.args.n ≤ length home = subst (λ (q : Path). c.args.n ≤ length q) at_home c.requires.at in
    let left : length home - (c.depth.result - c.args.n) ≡ c.args.n = omega (arith, within, c.depth.ensures) in
    let there = c.known.ensures.prefixes home (take c.args.n home) placed.home (take_above c.args.n home) in
    let here = c.row_up-at.ensures home placed.home placed.row ∙ ap (λ (k : ℕ). row_at c.self.inside.tree (take k home)) left in
    let counts = raised tree c.change_totals.new.tree a
    (λ q x e. c.requires.room q (group_of x) (group-at c.args.self.now tree c.self.inside.processes c.self.view_is q x e)) (c.change_totals.ensures a there here) in
    let slots = same_slots (λ n. n + 1) tree c.change_totals.new.tree a counts c.known-2.ensures.closed in
    record {
      has_slots = slots_stay tree c.change_totals.new.tree slots g.M.Meter.SLOTS c.self.inside.free.items c.self.invariant.has_slots;
      room = c.self.invariant.room;
      recounted = charges_stay tree c.change_totals.new.tree slots g.M.Meter.LEAVES c.self.inside.processes
          (g.M.Meter.content c.self.inside.meter) (g.M.Meter.held c.self.inside.meter) c.self.invariant.recounted;
    }

pub returns : goal.returns
returns g c =
    let tree = c.self.inside.tree in
    let a : Path = take c.args.n c.in-Some.process.now.home in
    let s : State = state_of tree c.self.inside.processes in
    let home : Path = c.in-Some.process.now.home in
    let placed = found_placed _ _ _ _ _ c.self.invariant.recounted c.args.parent c.in-Some.process.now (sym c.find_row.ensures ∙ ap option_copied c.in-Some.is) in
    let at_home = home_at _ _ _ _ _ c.self.invariant.recounted c.args.self.now c.self.view_is c.args.parent c.in-Some.process.now (sym c.find_row.ensures ∙ ap option_copied c.in-Some.is) in
    let within : c.args.n ≤ length home = subst (λ (q : Path). c.args.n ≤ length q) at_home c.requires.at in
    let left : length home - (c.depth.result - c.args.n) ≡ c.args.n = omega (arith, within, c.depth.ensures) in
    let there = c.known.ensures.prefixes home (take c.args.n home) placed.home (take_above c.args.n home) in
    let here = c.row_up-at.ensures home placed.home placed.row ∙ ap (λ (k : ℕ). row_at c.self.inside.tree (take k home)) left in
    let counts = raised tree c.change_totals.new.tree a
    (λ q x e. c.requires.room q (group_of x) (group-at c.args.self.now tree c.self.inside.processes c.self.view_is q x e)) (c.change_totals.ensures a there here) in
    flat-counts (λ n. n + 1) tree c.change_totals.new.tree a counts count_up up_each s.home
    ∙ ap (λ (q : Path). at_each (count_up (take c.args.n q)) s) (sym at_home)
    ∙ ap (λ (t : State). at_each (count_up (take c.args.n (home_of c.args.self.now c.args.parent))) t) c.self.view_is
