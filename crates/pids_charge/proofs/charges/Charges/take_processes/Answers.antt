use Rattle.std.proofs.Common.{ℕ, List, length, arith, ap, ◌∙◌, sym, subst}
use Rattle.std.specs.Map.{values_of}
use Rattle.std.specs.List.{All}
use Rattle.flat_model.specs.CommandText.{IsPid}
use Rattle.flat_model.specs.State.{State}
use Rattle.flat_model.specs.Command.{Kill}
use Rattle.flat_model.specs.Step.{after}
use Rattle.flat_model.specs.Inverse.{lost}
use Rattle.snzi_tokens.specs.Listed.{listed_at}
use Rattle.pids_charge.specs.Lists.{rows_of, inside, is_inside, lost_each, without_each}
use Rattle.pids_charge.specs.Recount.{state_of}
use Rattle.snzi_tokens.specs.declared.token.Token.{Token}
use Rattle.process_table.specs.declared.process.Process.{Process}
use Rattle.pids_charge.proofs.Entries.{kept_keys}
use Rattle.pids_charge.proofs.FlatGroups.{group-is, killed_group}
use Rattle.pids_charge.proofs.Gathers.{left_rows, lost_rows}
use Rattle.pids_charge.proofs.MeterContents.{held_small, inside_there, killed}
use Rattle.pids_charge.proofs.KillLists.{lost-is, killed-is}
use Rattle.pids_charge.proofs.charges.Charges.take_processes.Goals as goal

pub settle-requires-clause-charged : goal.settle-requires-clause-charged
settle-requires-clause-charged g c = λ s j.
    rw (
      c.as_slice.ensures.value,
      (c.in_ok-pids.ensures).counted s j,
    ) (inside_there g.M.Meter.LEAVES c.self.inside.tree c.self.inside.processes
    (g.M.Meter.content c.self.inside.meter) (g.M.Meter.held c.self.inside.meter) c.self.invariant.recounted c.args.path.now s j)

pub settle-requires-clause-room : goal.settle-requires-clause-room
settle-requires-clause-room g c =
    omega (
      arith,
      held_small g.M.Meter.LEAVES c.self.inside.tree c.self.inside.processes (g.M.Meter.content c.self.inside.meter)
          (g.M.Meter.held c.self.inside.meter) c.self.invariant.recounted c.self.invariant.has_slots.shallow,
    )

pub invariant_of-self : goal.invariant_of-self
invariant_of-self g c =
    let told = c.in_ok-pids.ensures in
    let go : List (Process g.row.A.Denot) = values_of (inside c.args.path.now c.self.inside.processes) in
    let counted = λ (s j : ℕ). ap (λ (ts : List Token). listed_at ts s j) c.as_slice.ensures.value ∙ told.counted s j in
    let many = ap length c.as_slice.ensures.value ∙ told.many in
    record {
      has_slots = c.self.invariant.has_slots;
      room = c.self.invariant.room;
      recounted = killed g.M.Meter.LEAVES c.self.inside.tree c.self.inside.processes (g.M.Meter.content c.self.inside.meter)
          (g.M.Meter.held c.self.inside.meter) c.self.invariant.recounted c.args.path.now
          c.leave-lost.new.processes (g.M.Meter.content c.settle.new.meter) (g.M.Meter.held c.settle.new.meter) (c.leave-lost.ensures.stay
          ∙ ap (λ (ks : List ℕ). without_each ks c.self.inside.processes) (c.as_slice-2.ensures.value ∙ (c.in_ok-pids.ensures).pids)
          ∙ left_rows (is_inside c.args.path.now) c.self.inside.processes c.self.invariant.recounted.ordered)
          c.leave-lost.ensures.ordered
          (λ s j. omega (arith, c.settle.ensures.content s j, counted s j)) (omega (arith, c.settle.ensures.held, many));
    }

pub returns-clause-state : goal.returns-clause-state
returns-clause-state g c =
    ap (state_of c.self.inside.tree) (c.leave-lost.ensures.stay
    ∙ ap (λ (ks : List ℕ). without_each ks c.self.inside.processes) (c.as_slice-2.ensures.value ∙ (c.in_ok-pids.ensures).pids)
    ∙ left_rows (is_inside c.args.path.now) c.self.inside.processes c.self.invariant.recounted.ordered)
    ∙ killed-is c.self.inside.tree c.self.inside.processes c.self.invariant.recounted.ordered c.args.path.now
    ∙ ap (λ (t : State). after t (Kill c.args.path.now)) c.self.view_is

pub returns-clause-taken : goal.returns-clause-taken
returns-clause-taken g c =
    c.of.ensures
    ∙ ap rows_of (c.leave-lost.ensures.lost ∙ ap (λ (ks : List ℕ). lost_each ks c.self.inside.processes) (c.as_slice-2.ensures.value
    ∙ (c.in_ok-pids.ensures).pids) ∙ lost_rows (is_inside c.args.path.now) c.self.inside.processes c.self.invariant.recounted.ordered)
    ∙ lost-is c.self.inside.tree c.self.inside.processes c.self.invariant.recounted.ordered c.args.path.now
    ∙ ap (λ (t : State). lost t c.args.path.now) c.self.view_is

pub gather-requires-clause-group : goal.gather-requires-clause-group
gather-requires-clause-group g c =
    sym (group-is c.args.self.now c.self.inside.tree c.self.inside.processes c.self.view_is c.args.path.now)
    ∙ killed_group g.M.Meter.SLOTS c.args.self.now c.args.path.now c.requires

pub leave-lost-requires-clause-pids : goal.leave-lost-requires-clause-pids
leave-lost-requires-clause-pids g c =
    subst (All IsPid) (sym (c.as_slice-2.ensures.value ∙ (c.in_ok-pids.ensures).pids)) (kept_keys IsPid (is_inside c.args.path.now) c.self.inside.processes c.self.invariant.recounted.pids)

pub leave-lost-requires-clause-room : goal.leave-lost-requires-clause-room
leave-lost-requires-clause-room g c = omega (arith, ap length c.as_slice-2.ensures.value, (c.in_ok-pids.ensures).room)
