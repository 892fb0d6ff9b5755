use Rattle.std.proofs.Common.{◌≡◌, true, false, IsSome, is_some, refl, sym, ap, ◌∙◌, subst}
use Rattle.std.specs.FinMap as fin
use Rattle.flat_model.specs.Step.{limit_at}
use Rattle.group_tree.specs.Flat.{limit_file_of, limit_of}
use Rattle.group_tree.specs.Groups.{Groups, IsClosed}
use Rattle.group_tree.specs.declared.attr.Attr.{Attr}
use Rattle.pids_charge.specs.Recount.{SameSlots}
use Rattle.pids_charge.proofs.FlatGroups.{group-is}
use Rattle.pids_charge.proofs.Changes.{changed_slots, slots_stay, charges_stay}
use Rattle.pids_charge.proofs.InRows.{same_attr}
use Rattle.pids_charge.proofs.LimitWrites.{limit_no_group, limit_allowed, attr-is, limited-is}
use Rattle.pids_charge.proofs.charges.Charges.replace_limit.Goals as goal

pub returns-in_default-clause-state : goal.returns-in_default-clause-state
returns-in_default-clause-state g c =
    let gone = group-is c.args.self.now c.self.inside.tree c.self.inside.processes c.self.view_is c.args.path.now ∙ ap is_some c.in_default.ensures in (
      limit_no_group g.M.Meter.SLOTS c.args.self.now c.args.path.now (limit_file_of c.args.file) (limit_of c.args.limit) c.depth.result
          (sym c.is_missing.ensures ∙ c.if-is_missing.false) gone c.depth.ensures,
      refl,
    )

pub returns-in_default-clause-certain : goal.returns-in_default-clause-certain
returns-in_default-clause-certain g c = λ e.
    let gone = group-is c.args.self.now c.self.inside.tree c.self.inside.processes c.self.view_is c.args.path.now ∙ ap is_some c.in_default.ensures in
    let no_group = limit_no_group g.M.Meter.SLOTS c.args.self.now c.args.path.now (limit_file_of c.args.file) (limit_of c.args.limit)
    c.depth.result (sym c.is_missing.ensures ∙ c.if-is_missing.false) gone c.depth.ensures in
    let f : true ≡ false = sym (ap is_some no_group) ∙ ap is_some e in cc

pub row-attr-requires : goal.row-attr-requires
row-attr-requires g c = record { path = c.args.path.now; there = c.in-Some.ensures.0; here = c.in-Some.ensures.1 }

pub put-requires-clause-group : goal.put-requires-clause-group
put-requires-clause-group g c = record { path = c.args.path.now; there = c.in-Some.ensures.0; here = c.in-Some.ensures.1 }

pub put-requires-clause-same : goal.put-requires-clause-same
put-requires-clause-same g c = λ p a here at.
    c.with_limit.ensures.slot ∙ ap (λ (x : Attr). x.slot) (same_attr (fin.get c.self.inside.tree p) c.row-attr.result.now a (sym (c.row-attr.ensures p (subst IsSome (sym here) refl) at)) here)

pub invariant_of-self : goal.invariant_of-self
invariant_of-self g c =
    let made = c.put.ensures c.args.path.now c.in-Some.ensures.0 c.in-Some.ensures.1 in
    let same : SameSlots c.self.inside.tree c.put.new.self =
    subst (λ (t : Groups). SameSlots c.self.inside.tree t) (sym made)
    (changed_slots c.self.inside.tree c.args.path.now c.with_limit.result c.row-attr.result.now (sym (c.row-attr.ensures c.args.path.now c.in-Some.ensures.0 c.in-Some.ensures.1)) c.with_limit.ensures.slot (subst IsClosed made c.known.ensures.closed)) in
    record {
      has_slots = slots_stay c.self.inside.tree c.put.new.self same g.M.Meter.SLOTS c.self.inside.free.items c.self.invariant.has_slots;
      room = c.self.invariant.room;
      recounted = charges_stay c.self.inside.tree c.put.new.self same g.M.Meter.LEAVES c.self.inside.processes
          (g.M.Meter.content c.self.inside.meter) (g.M.Meter.held c.self.inside.meter) c.self.invariant.recounted;
    }

pub returns-clause-state : goal.returns-clause-state
returns-clause-state g c =
    let there = group-is c.args.self.now c.self.inside.tree c.self.inside.processes c.self.view_is c.args.path.now ∙ c.in-Some.ensures.0 in (
      limit_allowed g.M.Meter.SLOTS c.args.self.now c.args.path.now (limit_file_of c.args.file) (limit_of c.args.limit) (sym c.is_missing.ensures ∙ c.if-is_missing.false) there,
      limited-is c.args.self.now c.self.inside.tree c.self.inside.processes c.self.view_is c.put.new.self c.args.path.now c.with_limit.result c.row-attr.result.now (limit_file_of c.args.file) (limit_of c.args.limit)
          (c.put.ensures c.args.path.now c.in-Some.ensures.0 c.in-Some.ensures.1) (sym (c.row-attr.ensures c.args.path.now c.in-Some.ensures.0 c.in-Some.ensures.1)) c.with_limit.ensures.group,
    )

pub returns-clause-old_limit : goal.returns-clause-old_limit
returns-clause-old_limit g c =
    c.limit.ensures ∙ ap (limit_at (limit_file_of c.args.file)) (sym (attr-is c.args.self.now c.self.inside.tree c.self.inside.processes c.self.view_is c.args.path.now c.row-attr.result.now (sym (c.row-attr.ensures c.args.path.now c.in-Some.ensures.0 c.in-Some.ensures.1))))
