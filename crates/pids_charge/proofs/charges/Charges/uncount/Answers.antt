use Rattle.std.proofs.Common.{◌-◌, ap, ◌∙◌}
use Rattle.flat_model.specs.State.{State}
use Rattle.flat_model.specs.Step.{count_down}
use Rattle.flat_model.specs.Inverse.{back, Counted}
use Rattle.pids_charge.specs.Recount.{state_of}
use Rattle.pids_charge.proofs.FlatGroups.{there-is}
use Rattle.pids_charge.proofs.FlatTotals.{flat-counts, same_slots, down_each}
use Rattle.pids_charge.proofs.Changes.{slots_stay, charges_stay}
use Rattle.pids_charge.proofs.charges.Charges.uncount.Goals as goal

pub row_in-at-requires : goal.row_in-at-requires
row_in-at-requires g c = there-is c.args.self.now c.self.inside.tree c.self.inside.processes c.self.view_is c.args.path.now c.requires.there

pub change_totals-requires-clause-group : goal.change_totals-requires-clause-group
change_totals-requires-clause-group g c = record { path = c.args.path.now; there = there-is c.args.self.now c.self.inside.tree c.self.inside.processes c.self.view_is c.args.path.now c.requires.there; here = c.row_in-at.ensures }

pub invariant_of-self : goal.invariant_of-self
invariant_of-self g c =
    let tree = c.self.inside.tree in
    let counts = c.change_totals.ensures c.args.path.now (there-is c.args.self.now c.self.inside.tree c.self.inside.processes c.self.view_is c.args.path.now c.requires.there) c.row_in-at.ensures in
    let slots = same_slots (λ n. n - 1) tree c.change_totals.new.tree c.args.path.now counts c.known.ensures.closed in
    record {
      has_slots = slots_stay tree c.change_totals.new.tree slots g.M.Meter.SLOTS c.self.inside.free.items c.self.invariant.has_slots;
      room = c.self.invariant.room;
      recounted = charges_stay tree c.change_totals.new.tree slots g.M.Meter.LEAVES c.self.inside.processes
          (g.M.Meter.content c.self.inside.meter) (g.M.Meter.held c.self.inside.meter) c.self.invariant.recounted;
    }

pub returns : goal.returns
returns g c =
    let tree = c.self.inside.tree in
    let s : State = state_of tree c.self.inside.processes in
    let counts = c.change_totals.ensures c.args.path.now (there-is c.args.self.now c.self.inside.tree c.self.inside.processes c.self.view_is c.args.path.now c.requires.there) c.row_in-at.ensures in
    flat-counts (λ n. n - 1) tree c.change_totals.new.tree c.args.path.now counts count_down down_each s.home
    ∙ ap (λ (t : State). back (Counted c.args.path.now) t) c.self.view_is
