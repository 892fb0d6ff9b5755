use Rattle.std.proofs.Common.{is_some, length, arith, refl, sym, ap, ◌∙◌}
use Rattle.std.proofs.lemmas.Bool.{false≢true}
use Rattle.flat_model.specs.State.{State}
use Rattle.flat_model.specs.Step.{set_peak, set_peaks}
use Rattle.pids_charge.specs.Peaks.{peaked_by}
use Rattle.pids_charge.specs.Recount.{state_of}
use Rattle.pids_charge.proofs.Changes.{slots_stay, charges_stay}
use Rattle.pids_charge.proofs.FlatGroups.{process-is}
use Rattle.pids_charge.proofs.FlatTotals.{flat_changed, slots_changed}
use Rattle.pids_charge.proofs.ForkOutcomes.{home_at}
use Rattle.pids_charge.proofs.MeterContents.{one_there, found_placed, taken}
use Rattle.pids_charge.proofs.ProcessExits.{exited-is}
use Rattle.pids_charge.proofs.charges.Charges.unfork.Goals as goal

pub unreachable-requires : goal.unreachable-requires
unreachable-requires g c =
    let gone = process-is c.args.self.now c.self.inside.tree c.self.inside.processes c.self.view_is c.self.invariant.recounted.ordered
    c.args.pid ∙ ap is_some (sym c.take_row.ensures.value ∙ c.in_default.is) in
    absurd (false≢true (sym gone ∙ c.requires.process))

pub uncharge_up-requires-clause-placed : goal.uncharge_up-requires-clause-placed
uncharge_up-requires-clause-placed g c = found_placed _ _ _ _ _ c.self.invariant.recounted c.args.pid c.in-Some.process (sym c.take_row.ensures.value ∙ c.in-Some.is)

pub uncharge_up-requires-clause-charged : goal.uncharge_up-requires-clause-charged
uncharge_up-requires-clause-charged g c = one_there _ _ _ _ _ c.self.invariant.recounted c.args.pid c.in-Some.process (sym c.take_row.ensures.value ∙ c.in-Some.is)

pub set_list_up-requires-clause-group : goal.set_list_up-requires-clause-group
set_list_up-requires-clause-group g c =
    let placed = found_placed _ _ _ _ _ c.self.invariant.recounted c.args.pid c.in-Some.process (sym c.take_row.ensures.value ∙ c.in-Some.is) in
    record { path = c.in-Some.process.home; there = placed.home; here = placed.row }

pub set_list_up-requires-clause-many : goal.set_list_up-requires-clause-many
set_list_up-requires-clause-many g c = λ q there here.
    let found = sym c.take_row.ensures.value ∙ c.in-Some.is in
    let placed = found_placed _ _ _ _ _ c.self.invariant.recounted c.args.pid c.in-Some.process found in
    let at_home = home_at _ _ _ _ _ c.self.invariant.recounted c.args.self.now c.self.view_is c.args.pid c.in-Some.process found in
    c.requires.many ∙ ap length (at_home ∙ c.known.ensures.apart c.in-Some.process.home q placed.home there (sym placed.row ∙ here))

pub set_list_up-requires-clause-few : goal.set_list_up-requires-clause-few
set_list_up-requires-clause-few g c =
    let found = sym c.take_row.ensures.value ∙ c.in-Some.is in
    let placed = found_placed _ _ _ _ _ c.self.invariant.recounted c.args.pid c.in-Some.process found in
    let at_home = home_at _ _ _ _ _ c.self.invariant.recounted c.args.self.now c.self.view_is c.args.pid c.in-Some.process found in
    omega (arith, c.requires.many, ap length at_home, c.self.invariant.has_slots.shallow c.in-Some.process.home placed.home)

pub invariant_of-self : goal.invariant_of-self
invariant_of-self g c =
    let tree = c.self.inside.tree in
    let process = c.in-Some.process in
    let found = sym c.take_row.ensures.value ∙ c.in-Some.is in
    let placed = found_placed _ _ _ _ _ c.self.invariant.recounted c.args.pid process found in
    let slots = slots_changed (peaked_by process.home c.args.peaks.now) tree c.set_list_up.new.tree (c.set_list_up.ensures process.home placed.home placed.row) (λ q attr. refl) c.known-3.ensures.closed in
    let left = taken _ _ _ _ _ c.self.invariant.recounted c.args.pid process c.take_row.new.processes
    (g.M.Meter.content c.uncharge_up.new.meter) (g.M.Meter.held c.uncharge_up.new.meter)
    found c.take_row.ensures.entries c.take_row.ensures.ordered c.uncharge_up.ensures.content c.uncharge_up.ensures.held in
    record {
      has_slots = slots_stay tree c.set_list_up.new.tree slots g.M.Meter.SLOTS c.self.inside.free.items c.self.invariant.has_slots;
      room = c.self.invariant.room;
      recounted = charges_stay tree c.set_list_up.new.tree slots g.M.Meter.LEAVES c.take_row.new.processes
          (g.M.Meter.content c.uncharge_up.new.meter) (g.M.Meter.held c.uncharge_up.new.meter) left;
    }

pub returns : goal.returns
returns g c =
    let tree = c.self.inside.tree in
    let process = c.in-Some.process in
    let peaks = c.args.peaks.now in
    let found = sym c.take_row.ensures.value ∙ c.in-Some.is in
    let placed = found_placed _ _ _ _ _ c.self.invariant.recounted c.args.pid process found in
    let at_home = home_at _ _ _ _ _ c.self.invariant.recounted c.args.self.now c.self.view_is c.args.pid process found in
    let left : State = state_of tree c.take_row.new.processes in
    let gone = exited-is c.args.pid c.self.inside.processes c.take_row.new.processes c.self.invariant.recounted.ordered c.take_row.ensures.ordered
    c.take_row.ensures.entries tree c.args.self.now c.self.view_is in
    flat_changed (peaked_by process.home peaks) tree c.set_list_up.new.tree (c.set_list_up.ensures process.home placed.home placed.row) (set_peak process.home peaks) (λ q attr e. refl) left.home
    ∙ (λ i. set_peaks (sym at_home i) peaks (gone i))
