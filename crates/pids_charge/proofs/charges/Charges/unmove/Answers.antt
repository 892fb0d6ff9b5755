use Rattle.std.proofs.Common.{List, is_some, ◌%◌, length, arith, refl, sym, ap, ◌∙◌, subst}
use Rattle.std.proofs.lemmas.Bool.{false≢true}
use Rattle.flat_model.specs.State.{State}
use Rattle.flat_model.specs.Step.{set_peak, set_peaks}
use Rattle.pids_charge.specs.Lists.{Row, process_in}
use Rattle.std.specs.Vec.{vec_capacity}
use Rattle.pids_charge.specs.Recount.{IsWhole, state_of}
use Rattle.process_table.specs.declared.process.Process.{Process}
use Rattle.pids_charge.proofs.MeterContents.{held_small, one_there, found_placed, moved}
use Rattle.pids_charge.proofs.FlatGroups.{process-is, moved-is, there-is}
use Rattle.pids_charge.specs.Peaks.{peaked_by}
use Rattle.pids_charge.proofs.Changes.{slots_stay, charges_stay}
use Rattle.pids_charge.proofs.FlatTotals.{flat_changed, slots_changed}
use Rattle.pids_charge.proofs.ForkOutcomes.{home_at}
use Rattle.pids_charge.proofs.charges.Charges.unmove.Goals as goal

pub unreachable-requires : goal.unreachable-requires
unreachable-requires g c =
    let there = sym (process-is c.args.self.now c.self.inside.tree c.self.inside.processes c.self.view_is c.self.invariant.recounted.ordered c.args.pid) ∙ c.requires.process in
    let gone = sym (ap is_some (sym c.in_ok-replaced.ensures.old ∙ c.in_default.is)) ∙ there in
    absurd (false≢true gone)

pub row_in-row-requires : goal.row_in-row-requires
row_in-row-requires g c = there-is c.args.self.now c.self.inside.tree c.self.inside.processes c.self.view_is c.args.path.now c.requires.group

pub invariant_of-self : goal.invariant_of-self
invariant_of-self g c =
    subst (λ (rows : List (Row g.row.A.Denot)). IsWhole g.M.Meter.SLOTS g.M.Meter.LEAVES c.self.inside.tree rows c.self.inside.free.items
    (vec_capacity c.self.inside.free) (g.M.Meter.content c.self.inside.meter) (g.M.Meter.held c.self.inside.meter))
    (sym c.in_err-replaced.ensures.kept) c.self.invariant

pub charge_up-requires-clause-group : goal.charge_up-requires-clause-group
charge_up-requires-clause-group g c = record {
  path = c.args.path.now;
  there = there-is c.args.self.now c.self.inside.tree c.self.inside.processes c.self.view_is c.args.path.now c.requires.group;
  here = c.row_in-row.ensures;
}

pub uncharge_up-requires-clause-placed : goal.uncharge_up-requires-clause-placed
uncharge_up-requires-clause-placed g c = found_placed _ _ _ _ _ c.self.invariant.recounted c.args.pid c.in-Some.before (sym c.in_ok-replaced.ensures.old ∙ c.in-Some.is)

pub uncharge_up-requires-clause-charged : goal.uncharge_up-requires-clause-charged
uncharge_up-requires-clause-charged g c =
    one_there _ _ _ _ _ c.self.invariant.recounted c.args.pid c.in-Some.before (sym c.in_ok-replaced.ensures.old ∙ c.in-Some.is)

pub charge_up-requires-clause-room : goal.charge_up-requires-clause-room
charge_up-requires-clause-room g c = λ p there here.
    let small = held_small _ _ _ _ _ c.self.invariant.recounted c.self.invariant.has_slots.shallow in
    let short = c.self.invariant.has_slots.shallow p there in
    omega (arith, small, c.uncharge_up.ensures.held, short)

pub set_list_up-requires-clause-group : goal.set_list_up-requires-clause-group
set_list_up-requires-clause-group g c =
    let placed = found_placed _ _ _ _ _ c.self.invariant.recounted c.args.pid c.in-Some.before (sym c.in_ok-replaced.ensures.old ∙ c.in-Some.is) in
    record { path = c.in-Some.before.home; there = placed.home; here = placed.row }

pub set_list_up-requires-clause-many : goal.set_list_up-requires-clause-many
set_list_up-requires-clause-many g c = λ q there here.
    let found = sym c.in_ok-replaced.ensures.old ∙ c.in-Some.is in
    let placed = found_placed _ _ _ _ _ c.self.invariant.recounted c.args.pid c.in-Some.before found in
    let at_home = home_at _ _ _ _ _ c.self.invariant.recounted c.args.self.now c.self.view_is c.args.pid c.in-Some.before found in
    c.requires.many ∙ ap length (at_home ∙ c.known.ensures.apart c.in-Some.before.home q placed.home there (sym placed.row ∙ here))

pub set_list_up-requires-clause-few : goal.set_list_up-requires-clause-few
set_list_up-requires-clause-few g c =
    let found = sym c.in_ok-replaced.ensures.old ∙ c.in-Some.is in
    let placed = found_placed _ _ _ _ _ c.self.invariant.recounted c.args.pid c.in-Some.before found in
    let at_home = home_at _ _ _ _ _ c.self.invariant.recounted c.args.self.now c.self.view_is c.args.pid c.in-Some.before found in
    omega (arith, c.requires.many, ap length at_home, c.self.invariant.has_slots.shallow c.in-Some.before.home placed.home)

pub invariant_of-self-2 : goal.invariant_of-self-2
invariant_of-self-2 g c =
    let leaf = c.args.who % c.LEAVES.result in
    let x : Process g.row.A.Denot = process_in c.args.path.now c.row_in-row.result leaf in
    let tree = c.self.inside.tree in
    let before = c.in-Some.before in
    let found = sym c.in_ok-replaced.ensures.old ∙ c.in-Some.is in
    let placed = found_placed _ _ _ _ _ c.self.invariant.recounted c.args.pid before found in
    let there = there-is c.args.self.now tree c.self.inside.processes c.self.view_is c.args.path.now c.requires.group in
    let slots = slots_changed (peaked_by before.home c.args.peaks.now) tree c.set_list_up.new.tree (c.set_list_up.ensures before.home placed.home placed.row) (λ q attr. refl) c.known-3.ensures.closed in
    let back = moved g.M.Meter.LEAVES tree c.self.inside.processes (g.M.Meter.content c.self.inside.meter) (g.M.Meter.held c.self.inside.meter) c.self.invariant.recounted
    c.args.pid before x c.put_copy.new.processes (g.M.Meter.content c.charge_up.new.meter) (g.M.Meter.held c.charge_up.new.meter)
    found c.put_copy.ensures.pid c.in_ok-replaced.ensures.entries c.put_copy.ensures.ordered
    (record { home = there; row = c.row_in-row.ensures; leaf_below = omega (arith, c.LEAVES.ensures, g.met.M.Meter.leaves_positive) })
    (λ s j. omega (arith, c.charge_up.ensures.content c.args.path.now there c.row_in-row.ensures s j, c.uncharge_up.ensures.content s j))
    (omega (arith, c.charge_up.ensures.held c.args.path.now there c.row_in-row.ensures, c.uncharge_up.ensures.held)) in
    record {
      has_slots = slots_stay tree c.set_list_up.new.tree slots g.M.Meter.SLOTS c.self.inside.free.items c.self.invariant.has_slots;
      room = c.self.invariant.room;
      recounted = charges_stay tree c.set_list_up.new.tree slots g.M.Meter.LEAVES c.put_copy.new.processes
          (g.M.Meter.content c.charge_up.new.meter) (g.M.Meter.held c.charge_up.new.meter) back;
    }

pub returns-clause-placed : goal.returns-clause-placed
returns-clause-placed g c =
    let x : Process g.row.A.Denot = process_in c.args.path.now c.row_in-row.result (c.args.who % c.LEAVES.result) in
    let tree = c.self.inside.tree in
    let before = c.in-Some.before in
    let peaks = c.args.peaks.now in
    let found = sym c.in_ok-replaced.ensures.old ∙ c.in-Some.is in
    let placed = found_placed _ _ _ _ _ c.self.invariant.recounted c.args.pid before found in
    let at_home = home_at _ _ _ _ _ c.self.invariant.recounted c.args.self.now c.self.view_is c.args.pid before found in
    let put : State = state_of tree c.put_copy.new.processes in
    let there = moved-is c.args.self.now tree c.self.inside.processes c.self.view_is c.self.invariant.recounted.ordered c.args.pid x
    c.put_copy.new.processes c.args.path.now c.in_ok-replaced.ensures.entries refl in
    flat_changed (peaked_by before.home peaks) tree c.set_list_up.new.tree (c.set_list_up.ensures before.home placed.home placed.row) (set_peak before.home peaks) (λ q attr e. refl) put.home
    ∙ (λ i. set_peaks (sym at_home i) peaks (there i))
