use Rattle.std.proofs.Common.{◌<◌, ℕ, Some, None, IsSome, length, arith, refl, ap, ◌∙◌, subst}
use Rattle.std.specs.FinMap as fin
use Rattle.flat_model.specs.State.{State}
use Rattle.flat_model.specs.Counts.{current}
use Rattle.group_tree.specs.Groups.{slot_of}
use Rattle.snzi_tokens.specs.Listed.{over_leaves}
use Rattle.pids_charge.proofs.FlatGroups.{group-by, asked}
use Rattle.pids_charge.proofs.GroupReads.{is_positive}
use Rattle.pids_charge.proofs.PathCharges.{current-is}
use Rattle.pids_charge.proofs.charges.Charges.populated.Goals as goal

pub returns-in_err-attr-clause-some : goal.returns-in_err-attr-clause-some
returns-in_err-attr-clause-some g c =
    let long : 0 < length c.args.path.now = omega arith in
    rw c.from_residual.ensures (asked c.args.self.now c.args.path.now _ long (group-by c.args.self.now c.self.inside.tree c.self.inside.processes c.self.view_is
    c.args.path.now None _ c.in_err-attr.ensures refl))

pub returns-clause-some : goal.returns-clause-some
returns-clause-some g c =
    let long : 0 < length c.args.path.now = omega arith in
    asked c.args.self.now c.args.path.now _ long (group-by c.args.self.now c.self.inside.tree c.self.inside.processes c.self.view_is
    c.args.path.now (Some c.in_ok-attr.attr) _ c.in_ok-attr.ensures refl)

pub returns-clause-told : goal.returns-clause-told
returns-clause-told g c =
    let long : 0 < length c.args.path.now = omega arith in
    let found = c.in_ok-attr.ensures in
    let there : IsSome (fin.get c.self.inside.tree c.args.path.now) = subst IsSome found refl in
    is_positive c.populated.result _ _ c.populated.ensures.answer (
    ap (λ (s : ℕ). over_leaves g.M.Meter.LEAVES (g.M.Meter.content c.self.inside.meter s)) (ap slot_of found)
    ∙ current-is g.M.Meter.SLOTS g.M.Meter.LEAVES c.self.inside.tree c.self.inside.processes (g.M.Meter.content c.self.inside.meter)
    (g.M.Meter.held c.self.inside.meter) c.self.invariant.recounted c.self.inside.free.items c.self.invariant.has_slots
    c.known.ensures.prefixes c.args.path.now long there
    ∙ ap (λ (t : State). current t c.args.path.now) c.self.view_is)
