use Rattle.std.proofs.Common.{◌≡◌, true, false, Option, [], is_some, unwrap_or, option_map, sym, ap, ◌∙◌}
use Rattle.flat_model.specs.Path.{Path}
use Rattle.pids_charge.specs.Recount.{state_of}
use Rattle.pids_charge.proofs.FlatGroups.{home-is, process-is}
use Rattle.pids_charge.proofs.MeterContents.{one_there, found_placed, taken}
use Rattle.pids_charge.proofs.ProcessExits.{exit_no_process, exit_allowed, exited-is}
use Rattle.pids_charge.proofs.charges.Charges.take_process.Goals as goal

pub returns-in_default-clause-state : goal.returns-in_default-clause-state
returns-in_default-clause-state g c =
    let gone = process-is c.args.self.now c.self.inside.tree c.self.inside.processes c.self.view_is c.self.invariant.recounted.ordered
    c.args.pid ∙ ap is_some (sym c.take_row.ensures.value ∙ c.in_default.is) in
    (exit_no_process g.M.Meter.SLOTS c.args.self.now c.args.pid gone, ap (state_of c.self.inside.tree) (c.take_row.ensures.unchanged c.in_default.is) ∙ c.self.view_is)

pub returns-in_default-clause-certain : goal.returns-in_default-clause-certain
returns-in_default-clause-certain g c = λ e.
    let gone = process-is c.args.self.now c.self.inside.tree c.self.inside.processes c.self.view_is c.self.invariant.recounted.ordered
    c.args.pid ∙ ap is_some (sym c.take_row.ensures.value ∙ c.in_default.is) in
    let f : true ≡ false = sym (ap is_some (exit_no_process g.M.Meter.SLOTS c.args.self.now c.args.pid gone)) ∙ ap is_some e in cc

pub uncharge_up-requires-clause-placed : goal.uncharge_up-requires-clause-placed
uncharge_up-requires-clause-placed g c = found_placed _ _ _ _ _ c.self.invariant.recounted c.args.pid c.in-Some.process (sym c.take_row.ensures.value ∙ c.in-Some.is)

pub uncharge_up-requires-clause-charged : goal.uncharge_up-requires-clause-charged
uncharge_up-requires-clause-charged g c = one_there _ _ _ _ _ c.self.invariant.recounted c.args.pid c.in-Some.process (sym c.take_row.ensures.value ∙ c.in-Some.is)

pub invariant_of-self-2 : goal.invariant_of-self-2
invariant_of-self-2 g c = record {
  has_slots = c.self.invariant.has_slots;
  room = c.self.invariant.room;
  recounted = taken _ _ _ _ _ c.self.invariant.recounted c.args.pid c.in-Some.process c.take_row.new.processes
      (g.M.Meter.content c.uncharge_up.new.meter) (g.M.Meter.held c.uncharge_up.new.meter)
      (sym c.take_row.ensures.value ∙ c.in-Some.is) c.take_row.ensures.entries c.take_row.ensures.ordered c.uncharge_up.ensures.content c.uncharge_up.ensures.held;
}

pub returns-clause-state : goal.returns-clause-state
returns-clause-state g c =
    let there = process-is c.args.self.now c.self.inside.tree c.self.inside.processes c.self.view_is c.self.invariant.recounted.ordered
    c.args.pid ∙ ap is_some (sym c.take_row.ensures.value ∙ c.in-Some.is) in (
      exit_allowed g.M.Meter.SLOTS c.args.self.now c.args.pid there,
      exited-is c.args.pid c.self.inside.processes c.take_row.new.processes c.self.invariant.recounted.ordered c.take_row.ensures.ordered
          c.take_row.ensures.entries c.self.inside.tree c.args.self.now c.self.view_is,
    )

pub returns-clause-old_home : goal.returns-clause-old_home
returns-clause-old_home g c =
    ap (λ (o : Option Path). unwrap_or o [])
    (sym (home-is c.args.self.now c.self.inside.tree c.self.inside.processes c.self.view_is c.self.invariant.recounted.ordered
    c.args.pid ∙ ap (option_map (λ p. p.home)) (sym c.take_row.ensures.value ∙ c.in-Some.is)))
