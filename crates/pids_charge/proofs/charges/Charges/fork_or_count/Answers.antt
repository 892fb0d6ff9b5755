use Rattle.std.proofs.Common.{◌≡◌, ◌%◌, Some, None, arith, refl, sym, ap, ◌∙◌, subst, option_map, ◌+◌, take}
use Rattle.std.specs.Ordering.{nat_cmp}
use Rattle.std.specs.BTreeMap.{insert_entry}
use Rattle.flat_model.specs.Path.{Path}
use Rattle.flat_model.specs.Step.{at_each, count_up, home_of, peaks_upward, refusal}
use Rattle.flat_model.specs.Command.{Fork, OverPidsMax}
use Rattle.flat_model.proofs.PathLaws.{take_above}
use Rattle.group_tree.specs.Flat.{group_of}
use Rattle.flat_model.specs.State.{State}
use Rattle.pids_charge.specs.Answers.{refusal_along}
use Rattle.pids_charge.specs.Lists.{row_at}
use Rattle.pids_charge.specs.Recount.{IsPlaced, state_of}
use Rattle.pids_charge.proofs.FlatGroups.{group-at, process-is}
use Rattle.pids_charge.proofs.FlatTotals.{flat-counts, raised, same_slots, up_each}
use Rattle.pids_charge.proofs.Changes.{charges_stay, slots_stay}
use Rattle.pids_charge.proofs.MeterContents.{held_small, found_placed, same_meter}
use Rattle.pids_charge.proofs.ForkOutcomes.{home_at, fork_asks, not_there, pids_ready, on_err, made_recounted, made_state}
use Rattle.pids_charge.proofs.PeakRises.{noted}
use Rattle.pids_charge.specs.declared.notes.FullGroup.{FullGroup}
use Rattle.pids_charge.proofs.charges.Charges.fork_or_count.Goals as goal

pub returns-in-Err-clause-forked : goal.returns-in-Err-clause-forked
returns-in-Err-clause-forked g c = (
  λ p. (
    subst (λ (s : State). refusal g.M.Meter.SLOTS s (Fork c.args.parent c.args.child) ≡ Some (refusal_along p c.in-Err.refusal)) c.self.view_is
        (c.in-Err.ensures.first g.M.Meter.SLOTS c.self.inside.tree p),
    c.in-Err.ensures.uncounted p,
  ),
  refl,
)

pub nearest_full-requires-clause-home : goal.nearest_full-requires-clause-home
nearest_full-requires-clause-home g c = (found_placed _ _ _ _ _ c.self.invariant.recounted c.args.parent c.in-Ok.from.now c.in-Ok.ensures.parent).home

pub nearest_full-requires-clause-row : goal.nearest_full-requires-clause-row
nearest_full-requires-clause-row g c = (found_placed _ _ _ _ _ c.self.invariant.recounted c.args.parent c.in-Ok.from.now c.in-Ok.ensures.parent).row

pub note_up-notes-requires-clause-group : goal.note_up-notes-requires-clause-group
note_up-notes-requires-clause-group g c =
    let placed = found_placed _ _ _ _ _ c.self.invariant.recounted c.args.parent c.in-Ok.from.now c.in-Ok.ensures.parent in
    record { path = c.in-Ok.from.now.home; there = placed.home; here = placed.row }

pub change_totals-requires-clause-group : goal.change_totals-requires-clause-group
change_totals-requires-clause-group g c =
    let from = c.in-Ok.from.now in
    let placed = found_placed _ _ _ _ _ c.self.invariant.recounted c.args.parent from c.in-Ok.ensures.parent in
    record {
      path = take c.in-Some.full.names from.home;
      there = c.known.ensures.prefixes from.home (take c.in-Some.full.names from.home) placed.home (take_above c.in-Some.full.names from.home);
      here = rw c.in-Some.is at c.nearest_full.ensures.row;
    }

pub invariant_of-self-in-Some : goal.invariant_of-self-in-Some
invariant_of-self-in-Some g c =
    let tree = c.self.inside.tree in
    let es = c.self.inside.processes in
    let a : Path = take c.in-Some.full.names c.in-Ok.from.now.home in
    let content = g.M.Meter.content c.nearest_full.new.meter in
    let held = g.M.Meter.held c.nearest_full.new.meter in
    let placed = found_placed _ _ _ _ _ c.self.invariant.recounted c.args.parent c.in-Ok.from.now c.in-Ok.ensures.parent in
    let full_row : c.in-Some.full.row ≡ row_at c.self.inside.tree (take c.in-Some.full.names c.in-Ok.from.now.home) = rw c.in-Some.is at c.nearest_full.ensures.row in
    let totals = c.change_totals.ensures (take c.in-Some.full.names c.in-Ok.from.now.home)
    (c.known.ensures.prefixes c.in-Ok.from.now.home (take c.in-Some.full.names c.in-Ok.from.now.home) placed.home (take_above c.in-Some.full.names c.in-Ok.from.now.home)) full_row in
    let counts = raised tree c.change_totals.new.tree a
    (λ q x e. c.requires c.if-not-can_count.false q (group_of x) (group-at c.args.self.now tree es c.self.view_is q x e)) totals in
    let slots = same_slots (λ n. n + 1) tree c.change_totals.new.tree a counts c.known-in-Some.ensures.closed in
    record {
      has_slots = slots_stay tree c.change_totals.new.tree slots g.M.Meter.SLOTS c.self.inside.free.items c.self.invariant.has_slots;
      room = c.self.invariant.room;
      recounted = charges_stay tree c.change_totals.new.tree slots g.M.Meter.LEAVES es content held
          (same_meter _ _ _ _ _ c.self.invariant.recounted content held c.nearest_full.ensures.content c.nearest_full.ensures.held);
    }

pub returns-in-Some-clause-forked : goal.returns-in-Some-clause-forked
returns-in-Some-clause-forked g c =
    let tree = c.self.inside.tree in
    let es = c.self.inside.processes in
    let from = c.in-Ok.from.now in
    let names = c.in-Some.full.names in
    let a : Path = take names from.home in
    let s : State = state_of tree es in
    let at_home = home_at _ _ _ _ _ c.self.invariant.recounted c.args.self.now c.self.view_is c.args.parent from c.in-Ok.ensures.parent in
    let path_is : c.in_ok-path.path ≡ take names (home_of c.args.self.now c.args.parent) = c.in_ok-path.ensures.group ∙ ap (take names) (sym at_home) in
    let new = process-is c.args.self.now tree es c.self.view_is c.self.invariant.recounted.ordered c.args.child ∙ c.in-Ok.ensures.child in
    let placed = found_placed _ _ _ _ _ c.self.invariant.recounted c.args.parent c.in-Ok.from.now c.in-Ok.ensures.parent in
    let full_row : c.in-Some.full.row ≡ row_at c.self.inside.tree (take c.in-Some.full.names c.in-Ok.from.now.home) = rw c.in-Some.is at c.nearest_full.ensures.row in
    let totals = c.change_totals.ensures (take c.in-Some.full.names c.in-Ok.from.now.home)
    (c.known.ensures.prefixes c.in-Ok.from.now.home (take c.in-Some.full.names c.in-Ok.from.now.home) placed.home (take_above c.in-Some.full.names c.in-Ok.from.now.home)) full_row in
    let counts = raised tree c.change_totals.new.tree a
    (λ q x e. c.requires c.if-not-can_count.false q (group_of x) (group-at c.args.self.now tree es c.self.view_is q x e)) totals in (
      fork_asks g.M.Meter.SLOTS g.M.Meter.LEAVES tree es (g.M.Meter.content c.self.inside.meter) (g.M.Meter.held c.self.inside.meter)
          c.self.invariant.recounted c.self.inside.free.items c.self.invariant.has_slots c.known.ensures.prefixes
          c.args.self.now c.self.view_is c.args.parent from c.in-Ok.ensures.parent c.args.child new (Some a)
          (ap (option_map (λ (full : FullGroup). take full.names from.home)) (sym c.in-Some.is) ∙ c.nearest_full.ensures.answer)
          ∙ ap (λ (q : Path). Some (OverPidsMax q)) (sym c.in_ok-path.ensures.group),
      flat-counts (λ n. n + 1) tree c.change_totals.new.tree a counts count_up up_each s.home
          ∙ ap (λ (q : Path). at_each (count_up (take names q)) s) (sym at_home)
          ∙ ap (λ (t : State). at_each (count_up (take names (home_of c.args.self.now c.args.parent))) t) c.self.view_is
          ∙ ap (λ (q : Path). at_each (count_up q) c.args.self.now) (sym path_is),
      c.in_ok-shared.ensures,
    )

pub charge_noted-requires-clause-group : goal.charge_noted-requires-clause-group
charge_noted-requires-clause-group g c =
    let placed = found_placed _ _ _ _ _ c.self.invariant.recounted c.args.parent c.in-Ok.from.now c.in-Ok.ensures.parent in
    record { path = c.in-Ok.from.now.home; there = placed.home; here = placed.row }

pub charge_noted-requires-clause-room : goal.charge_noted-requires-clause-room
charge_noted-requires-clause-room g c =
    let from = c.in-Ok.from.now in
    let placed = found_placed _ _ _ _ _ c.self.invariant.recounted c.args.parent from c.in-Ok.ensures.parent in
    omega (
      arith,
      (c.note_up-notes.ensures from.home placed.home placed.row).slots.many,
      held_small _ _ _ _ _ c.self.invariant.recounted c.self.invariant.has_slots.shallow,
      c.self.invariant.has_slots.shallow from.home placed.home,
      c.nearest_full.ensures.held,
    )

pub invariant_of-self-2 : goal.invariant_of-self-2
invariant_of-self-2 g c =
    let tree = c.self.inside.tree in
    let es = c.self.inside.processes in
    let from = c.in-Ok.from.now in
    let leaf = c.args.who % c.LEAVES.result in
    let content = g.M.Meter.content c.nearest_full.new.meter in
    let held = g.M.Meter.held c.nearest_full.new.meter in
    let placed : IsPlaced g.M.Meter.LEAVES tree from = found_placed _ _ _ _ _ c.self.invariant.recounted c.args.parent from c.in-Ok.ensures.parent in
    let new = process-is c.args.self.now tree es c.self.view_is c.self.invariant.recounted.ordered c.args.child ∙ c.in-Ok.ensures.child in
    record {
      has_slots = slots_stay tree c.charge_noted.new.tree c.charge_noted.ensures.slots g.M.Meter.SLOTS c.self.inside.free.items c.self.invariant.has_slots;
      room = c.self.invariant.room;
      recounted = made_recounted g.M.Meter.SLOTS g.M.Meter.LEAVES tree c.charge_noted.new.tree es c.admit.new.processes content
          (g.M.Meter.content c.charge_noted.new.meter) held (g.M.Meter.held c.charge_noted.new.meter)
          (same_meter _ _ _ _ _ c.self.invariant.recounted content held c.nearest_full.ensures.content c.nearest_full.ensures.held)
          c.self.inside.free.items c.self.invariant.has_slots c.charge_noted.ensures.slots
          c.args.child leaf from placed (not_there c.args.self.now tree es c.self.view_is c.self.invariant.recounted.ordered c.args.child new)
          c.admit.ensures.pid (c.in_ok-peaks.ensures.entries ∙ ap (insert_entry nat_cmp es c.args.child) c.in_ok-process.ensures) c.admit.ensures.ordered
          (omega (arith, c.LEAVES.ensures, g.met.M.Meter.leaves_positive))
          (c.charge_noted.ensures.content from.home placed.home placed.row) (omega (arith, c.charge_noted.ensures.held, (c.note_up-notes.ensures from.home placed.home placed.row).slots.many));
    }

pub returns-clause-forked : goal.returns-clause-forked
returns-clause-forked g c =
    let tree = c.self.inside.tree in
    let es = c.self.inside.processes in
    let from = c.in-Ok.from.now in
    let leaf = c.args.who % c.LEAVES.result in
    let content = g.M.Meter.content c.nearest_full.new.meter in
    let held = g.M.Meter.held c.nearest_full.new.meter in
    let placed : IsPlaced g.M.Meter.LEAVES tree from = found_placed _ _ _ _ _ c.self.invariant.recounted c.args.parent from c.in-Ok.ensures.parent in
    let new = process-is c.args.self.now tree es c.self.view_is c.self.invariant.recounted.ordered c.args.child ∙ c.in-Ok.ensures.child in (
      fork_asks g.M.Meter.SLOTS g.M.Meter.LEAVES tree es (g.M.Meter.content c.self.inside.meter) (g.M.Meter.held c.self.inside.meter)
          c.self.invariant.recounted c.self.inside.free.items c.self.invariant.has_slots c.known.ensures.prefixes
          c.args.self.now c.self.view_is c.args.parent from c.in-Ok.ensures.parent c.args.child new None (ap (option_map (λ (full : FullGroup). take full.names from.home)) (sym c.in_default.is) ∙ c.nearest_full.ensures.answer),
      made_state g.M.Meter.SLOTS g.M.Meter.LEAVES tree c.charge_noted.new.tree es c.admit.new.processes content
          (g.M.Meter.content c.charge_noted.new.meter) held (g.M.Meter.held c.charge_noted.new.meter)
          (same_meter _ _ _ _ _ c.self.invariant.recounted content held c.nearest_full.ensures.content c.nearest_full.ensures.held)
          c.self.inside.free.items c.self.invariant.has_slots c.charge_noted.ensures.slots
          c.args.child leaf from placed (not_there c.args.self.now tree es c.self.view_is c.self.invariant.recounted.ordered c.args.child new)
          c.admit.ensures.pid (c.in_ok-peaks.ensures.entries ∙ ap (insert_entry nat_cmp es c.args.child) c.in_ok-process.ensures) c.admit.ensures.ordered
          (omega (arith, c.LEAVES.ensures, g.met.M.Meter.leaves_positive))
          (c.charge_noted.ensures.content from.home placed.home placed.row) (omega (arith, c.charge_noted.ensures.held, (c.note_up-notes.ensures from.home placed.home placed.row).slots.many))
          c.known.ensures.prefixes c.args.self.now c.self.view_is c.args.parent (home_at _ _ _ _ _ c.self.invariant.recounted c.args.self.now c.self.view_is c.args.parent from c.in-Ok.ensures.parent)
          (c.charge_noted.ensures.raised from.home placed.home placed.row),
      c.in_ok-peaks.ensures.peaks ∙ c.peaks.ensures.same
          ∙ noted c.self.inside.tree c.self.inside.processes c.args.self.now c.self.view_is c.in-Ok.from.now.home
          c.note_up-notes.result.peaks (c.note_up-notes.ensures from.home placed.home placed.row).peaks
          ∙ ap (peaks_upward c.args.self.now) (sym (home_at _ _ _ _ _ c.self.invariant.recounted c.args.self.now c.self.view_is c.args.parent from c.in-Ok.ensures.parent)),
    )

pub returns-then-not-can_count-clause-ready : goal.returns-then-not-can_count-clause-ready
returns-then-not-can_count-clause-ready g c = pids_ready c.self.inside.tree c.self.inside.processes c.self.invariant.recounted.ordered c.args.self.now c.self.view_is c.args.parent c.args.child c.in-Ok.from.now c.in-Ok.ensures.parent c.in-Ok.ensures.child

pub returns-in_err-clone-clause-ready : goal.returns-in_err-clone-clause-ready
returns-in_err-clone-clause-ready g c = on_err _ _ (pids_ready c.self.inside.tree c.self.inside.processes c.self.invariant.recounted.ordered c.args.self.now c.self.view_is c.args.parent c.args.child c.in-Ok.from.now c.in-Ok.ensures.parent c.in-Ok.ensures.child)

pub returns-in_err-path-clause-ready : goal.returns-in_err-path-clause-ready
returns-in_err-path-clause-ready g c = on_err _ _ (pids_ready c.self.inside.tree c.self.inside.processes c.self.invariant.recounted.ordered c.args.self.now c.self.view_is c.args.parent c.args.child c.in-Ok.from.now c.in-Ok.ensures.parent c.in-Ok.ensures.child)

pub returns-in_err-shared-clause-ready : goal.returns-in_err-shared-clause-ready
returns-in_err-shared-clause-ready g c = on_err _ _ (pids_ready c.self.inside.tree c.self.inside.processes c.self.invariant.recounted.ordered c.args.self.now c.self.view_is c.args.parent c.args.child c.in-Ok.from.now c.in-Ok.ensures.parent c.in-Ok.ensures.child)

pub returns-in_err-process-clause-ready : goal.returns-in_err-process-clause-ready
returns-in_err-process-clause-ready g c = on_err _ _ (pids_ready c.self.inside.tree c.self.inside.processes c.self.invariant.recounted.ordered c.args.self.now c.self.view_is c.args.parent c.args.child c.in-Ok.from.now c.in-Ok.ensures.parent c.in-Ok.ensures.child)

pub returns-in_err-peaks-clause-ready : goal.returns-in_err-peaks-clause-ready
returns-in_err-peaks-clause-ready g c = on_err _ _ (pids_ready c.self.inside.tree c.self.inside.processes c.self.invariant.recounted.ordered c.args.self.now c.self.view_is c.args.parent c.args.child c.in-Ok.from.now c.in-Ok.ensures.parent c.in-Ok.ensures.child)
