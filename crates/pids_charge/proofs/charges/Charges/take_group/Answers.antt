use Rattle.std.proofs.Common.{◌++◌, ◌∷◌, [], List, ℕ, sym, ap, ◌∙◌, subst, arith}
use Rattle.std.specs.FinMap as fin
use Rattle.flat_model.specs.State.{State}
use Rattle.flat_model.specs.Command.{RemoveGroup}
use Rattle.flat_model.specs.Step.{after}
use Rattle.flat_model.proofs.MapValues.{map_values-remove}
use Rattle.flat_model.proofs.PathLaws.{path_cmp-IsTotalOrder, path_cmp-IsAntisymmetric}
use Rattle.group_tree.specs.Flat.{group_of}
use Rattle.group_tree.specs.Groups.{Groups, IsClosed}
use Rattle.pids_charge.specs.Recount.{HasSlots, Recounted, state_of}
use Rattle.pids_charge.proofs.FlatGroups.{group-at}
use Rattle.pids_charge.proofs.Removals.{MayGo, remove_may, is_group_there, not_refused, has_below, not_root, freed, room, nobody}
use Rattle.pids_charge.proofs.charges.Charges.take_group.Goals as goal

pub unreachable-requires : goal.unreachable-requires
unreachable-requires g c =
    let may = remove_may g.M.Meter.SLOTS c.args.self.now c.args.path.now c.requires in
    not_refused c.self.inside.tree c.remove.new.self c.args.path.now c.in_default.field-0 c.in_default.ensures may.below_root
    (is_group_there c.args.self.now c.self.inside.tree c.self.inside.processes c.self.view_is c.args.path.now may)
    (has_below c.args.self.now c.self.inside.tree c.self.inside.processes c.self.view_is c.args.path.now c.known.ensures.flat may)

pub unreachable-requires-in_default-push : goal.unreachable-requires-in_default-push
unreachable-requires-in_default-push g c =
    let tree : Groups = c.self.inside.tree in
    let may = remove_may g.M.Meter.SLOTS c.args.self.now c.args.path.now c.requires in
    let pos = not_root c.args.path.now may.below_root in
    let here = c.in-Ok.ensures.1 in
    let made = c.in-Ok.ensures.3 in
    let closed = subst IsClosed made c.known-2.ensures.closed in
    let free : List ℕ = c.self.inside.free.items in
    omega (arith, room g.M.Meter.SLOTS tree free c.self.invariant.has_slots c.args.path.now c.in-Ok.attr pos here closed, c.self.invariant.room, c.in_default-push.ensures.full, c.self.inside.free.ok)

pub invariant_of-self : goal.invariant_of-self
invariant_of-self g c =
    let tree : Groups = c.self.inside.tree in
    let may = remove_may g.M.Meter.SLOTS c.args.self.now c.args.path.now c.requires in
    let pos = not_root c.args.path.now may.below_root in
    let here = c.in-Ok.ensures.1 in
    let made = c.in-Ok.ensures.3 in
    let closed = subst IsClosed made c.known-2.ensures.closed in
    let free : List ℕ = c.self.inside.free.items in
    let slots : HasSlots g.M.Meter.SLOTS (fin.remove tree c.args.path.now) (free ++ c.in-Ok.attr.slot ∷ []) =
    freed g.M.Meter.SLOTS tree free c.self.invariant.has_slots c.args.path.now c.in-Ok.attr pos here closed in
    let es = c.self.inside.processes in
    let same = nobody g.M.Meter.SLOTS tree free c.self.invariant.has_slots c.args.path.now c.in-Ok.attr pos here g.M.Meter.LEAVES es
    (g.M.Meter.content c.self.inside.meter) (g.M.Meter.held c.self.inside.meter) c.self.invariant.recounted c.known.ensures.flat
    (subst (λ (t : State). MayGo t c.args.path.now) (sym c.self.view_is) may) in
    record {
      has_slots = subst (λ (t : Groups). HasSlots g.M.Meter.SLOTS t c.push.new.self.items) (sym made)
          (subst (λ (f : List ℕ). HasSlots g.M.Meter.SLOTS (fin.remove tree c.args.path.now) f) (sym c.in-Ok-push.ensures.items) slots);
      room = omega (arith, c.self.invariant.room, c.in-Ok-push.ensures.capacity);
      recounted = subst (λ (t : Groups). Recounted g.M.Meter.LEAVES t es (g.M.Meter.content c.self.inside.meter) (g.M.Meter.held c.self.inside.meter)) (sym made) same;
    }

pub returns-clause-state : goal.returns-clause-state
returns-clause-state g c =
    let es = c.self.inside.processes in
    ap (λ (t : Groups). state_of t es) c.in-Ok.ensures.3
    ∙ ap (λ m. record (state_of c.self.inside.tree es) { groups = m }) (map_values-remove group_of path_cmp-IsTotalOrder path_cmp-IsAntisymmetric c.self.inside.tree c.args.path.now)
    ∙ ap (λ (t : State). after t (RemoveGroup c.args.path.now)) c.self.view_is

pub returns-clause-attr : goal.returns-clause-attr
returns-clause-attr g c = sym (group-at c.args.self.now c.self.inside.tree c.self.inside.processes c.self.view_is c.args.path.now c.in-Ok.attr c.in-Ok.ensures.1)
