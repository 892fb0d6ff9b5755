use Rattle.std.proofs.Common.{◌%◌, List, arith, refl, sym, subst}
use Rattle.pids_charge.specs.Lists.{Row, process_in}
use Rattle.pids_charge.specs.Recount.{IsWhole}
use Rattle.process_table.specs.declared.process.Process.{Process}
use Rattle.std.specs.Vec.{vec_capacity}
use Rattle.pids_charge.proofs.FlatGroups.{there-is, no_home, moved-is}
use Rattle.pids_charge.proofs.MeterContents.{held_small, added}
use Rattle.pids_charge.proofs.charges.Charges.put_process_back.Goals as goal

pub row_in-row-requires : goal.row_in-row-requires
row_in-row-requires g c = there-is c.args.self.now c.self.inside.tree c.self.inside.processes c.self.view_is c.args.path.now c.requires.group

pub charge_up-requires-clause-group : goal.charge_up-requires-clause-group
charge_up-requires-clause-group g c = record {
  path = c.args.path.now;
  there = there-is c.args.self.now c.self.inside.tree c.self.inside.processes c.self.view_is c.args.path.now c.requires.group;
  here = c.row_in-row.ensures;
}

pub charge_up-requires-clause-room : goal.charge_up-requires-clause-room
charge_up-requires-clause-room g c = λ p there here.
    let small = held_small _ _ _ _ _ c.self.invariant.recounted c.self.invariant.has_slots.shallow in
    let short = c.self.invariant.has_slots.shallow p there in
    omega (arith, small, short)

pub invariant_of-self : goal.invariant_of-self
invariant_of-self g c =
    subst (λ (rows : List (Row g.row.A.Denot)). IsWhole g.M.Meter.SLOTS g.M.Meter.LEAVES c.self.inside.tree rows c.self.inside.free.items
    (vec_capacity c.self.inside.free) (g.M.Meter.content c.self.inside.meter) (g.M.Meter.held c.self.inside.meter))
    (sym c.in_err-put_copy.ensures.kept) c.self.invariant

pub invariant_of-self-2 : goal.invariant_of-self-2
invariant_of-self-2 g c =
    let x : Process g.row.A.Denot = process_in c.args.path.now c.row_in-row.result (c.args.who % c.LEAVES.result) in
    record {
      has_slots = c.self.invariant.has_slots;
      room = c.self.invariant.room;
      recounted = added _ _ _ _ _ c.self.invariant.recounted c.args.pid x c.put_copy.new.processes (g.M.Meter.content c.charge_up.new.meter) (g.M.Meter.held c.charge_up.new.meter)
          (no_home c.args.self.now c.self.inside.tree c.self.inside.processes c.self.view_is c.self.invariant.recounted.ordered c.args.pid
          c.requires.new) c.put_copy.ensures.pid c.in_ok-put_copy.ensures.entries c.put_copy.ensures.ordered
          (record {
            home = there-is c.args.self.now c.self.inside.tree c.self.inside.processes c.self.view_is c.args.path.now
                c.requires.group;
            row = c.row_in-row.ensures;
            leaf_below =
                omega (arith, c.LEAVES.ensures, g.met.M.Meter.leaves_positive);
          })
          (λ s j. c.charge_up.ensures.content c.args.path.now (there-is c.args.self.now c.self.inside.tree c.self.inside.processes c.self.view_is c.args.path.now c.requires.group) c.row_in-row.ensures s j)
          (c.charge_up.ensures.held c.args.path.now (there-is c.args.self.now c.self.inside.tree c.self.inside.processes c.self.view_is c.args.path.now c.requires.group) c.row_in-row.ensures);
    }

pub returns-clause-placed : goal.returns-clause-placed
returns-clause-placed g c =
    let x : Process g.row.A.Denot = process_in c.args.path.now c.row_in-row.result (c.args.who % c.LEAVES.result) in
    moved-is c.args.self.now c.self.inside.tree c.self.inside.processes c.self.view_is c.self.invariant.recounted.ordered c.args.pid x
    c.put_copy.new.processes c.args.path.now c.in_ok-put_copy.ensures.entries refl
