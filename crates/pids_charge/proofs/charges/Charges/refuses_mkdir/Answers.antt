use Rattle.std.proofs.Common.{◌≡◌, ◌-◌, IsSome, length, take, Some, is_some, arith, sym, ap, ◌∙◌, subst, ℕ}
use Rattle.std.proofs.lemmas.Bool.Decides.{nat_tests}
use Rattle.std.proofs.lemmas.List.{length-take-le}
use Rattle.std.specs.FinMap as fin
use Rattle.flat_model.specs.Command as model
use Rattle.flat_model.specs.Path.{Path}
use Rattle.pids_charge.specs.Answers.{refusal_along}
use Rattle.pids_charge.specs.Lists.{row_at}
use Rattle.pids_charge.proofs.FlatGroups.{blocked-is, group-is, is_none, len-is, make_exists, make_no_parent, make_blocked, make_full, make_allowed}
use Rattle.pids_charge.proofs.GroupReads.{matched}
use Rattle.pids_charge.proofs.Slots.{has_names}
use Rattle.pids_charge.proofs.charges.Charges.refuses_mkdir.Goals as goal

pub returns-then-is_some-clause-first : goal.returns-then-is_some-clause-first
returns-then-is_some-clause-first g c = make_exists g.M.Meter.SLOTS c.args.self.now c.args.path.now (group-is c.args.self.now c.self.inside.tree c.self.inside.processes c.self.view_is c.args.path.now ∙ sym (matched c.find_row.result (fin.get c.self.inside.tree c.args.path.now) _ c.find_row.ensures) ∙ sym c.is_some.ensures ∙ c.if-is_some.true)

pub returns-in_default-clause-first : goal.returns-in_default-clause-first
returns-in_default-clause-first g c =
    let absent = group-is c.args.self.now c.self.inside.tree c.self.inside.processes c.self.view_is c.args.path.now ∙ sym (matched c.find_row.result (fin.get c.self.inside.tree c.args.path.now) _ c.find_row.ensures) ∙ sym c.is_some.ensures ∙ c.if-is_some.false in
    let up : c.saturating_sub-n.result ≡ length c.args.path.now - 1 = c.saturating_sub-n.ensures ∙ ap (λ n. n - 1) c.depth.ensures in
    make_no_parent g.M.Meter.SLOTS c.args.self.now c.args.path.now c.saturating_sub-n.result up absent
    (group-is c.args.self.now c.self.inside.tree c.self.inside.processes c.self.view_is (take c.saturating_sub-n.result c.args.path.now) ∙ ap is_some c.in_default.ensures)

pub first_met-requires-clause-parent : goal.first_met-requires-clause-parent
first_met-requires-clause-parent g c = record { path = take c.saturating_sub-n.result c.args.path.now; there = c.in-Some.ensures.0; here = c.in-Some.ensures.1 }

pub first_met-requires-clause-shallow : goal.first_met-requires-clause-shallow
first_met-requires-clause-shallow g c =
    let own : Path = take c.saturating_sub-n.result c.args.path.now in
    let short = c.self.invariant.has_slots.shallow own c.in-Some.ensures.0 in
    omega (arith, short, length-take-le c.saturating_sub-n.result c.args.path.now (omega (arith, c.saturating_sub-n.ensures, c.depth.ensures)))

pub returns-in-Some-first_met-clause-first : goal.returns-in-Some-first_met-clause-first
returns-in-Some-first_met-clause-first g c =
    let absent = group-is c.args.self.now c.self.inside.tree c.self.inside.processes c.self.view_is c.args.path.now ∙ sym (matched c.find_row.result (fin.get c.self.inside.tree c.args.path.now) _ c.find_row.ensures) ∙ sym c.is_some.ensures ∙ c.if-is_some.false in
    let up : c.saturating_sub-n.result ≡ length c.args.path.now - 1 = c.saturating_sub-n.ensures ∙ ap (λ n. n - 1) c.depth.ensures in
    let above = group-is c.args.self.now c.self.inside.tree c.self.inside.processes c.self.view_is (take c.saturating_sub-n.result c.args.path.now) ∙ c.in-Some.ensures.0 in
    let named = has_names c.self.inside.tree c.self.invariant.has_slots.closed c.args.path.now (is_none (fin.get c.self.inside.tree c.args.path.now)
    (sym (matched c.find_row.result (fin.get c.self.inside.tree c.args.path.now) _ c.find_row.ensures) ∙ sym c.is_some.ensures ∙ c.if-is_some.false)) in
    let first = c.in-Some-first_met.ensures.first c.args.path.now (omega (arith, named, c.saturating_sub-n.ensures, c.depth.ensures))
    (subst (λ (n : ℕ). IsSome (fin.get c.self.inside.tree (take n c.args.path.now))) up c.in-Some.ensures.0)
    (c.in-Some.ensures.1 ∙ ap (λ (n : ℕ). row_at c.self.inside.tree (take n c.args.path.now)) up) in
    make_blocked g.M.Meter.SLOTS c.args.self.now c.args.path.now c.saturating_sub-n.result (refusal_along c.args.path.now c.in-Some-first_met.met) up absent above
    (blocked-is c.self.inside.tree c.self.inside.processes c.args.self.now c.self.view_is c.args.path.now _ first)

pub returns-in-Some-first_met-clause-kept : goal.returns-in-Some-first_met-clause-kept
returns-in-Some-first_met-clause-kept g c = c.in-Some-first_met.ensures.uncounted c.args.path.now c.args.self.now

pub returns-then-is_empty-clause-first : goal.returns-then-is_empty-clause-first
returns-then-is_empty-clause-first g c =
    let absent = group-is c.args.self.now c.self.inside.tree c.self.inside.processes c.self.view_is c.args.path.now ∙ sym (matched c.find_row.result (fin.get c.self.inside.tree c.args.path.now) _ c.find_row.ensures) ∙ sym c.is_some.ensures ∙ c.if-is_some.false in
    let up : c.saturating_sub-n.result ≡ length c.args.path.now - 1 = c.saturating_sub-n.ensures ∙ ap (λ n. n - 1) c.depth.ensures in
    let above = group-is c.args.self.now c.self.inside.tree c.self.inside.processes c.self.view_is (take c.saturating_sub-n.result c.args.path.now) ∙ c.in-Some.ensures.0 in
    let named = has_names c.self.inside.tree c.self.invariant.has_slots.closed c.args.path.now (is_none (fin.get c.self.inside.tree c.args.path.now)
    (sym (matched c.find_row.result (fin.get c.self.inside.tree c.args.path.now) _ c.find_row.ensures) ∙ sym c.is_some.ensures ∙ c.if-is_some.false)) in
    let first = c.in_default-first_met.ensures.first c.args.path.now (omega (arith, named, c.saturating_sub-n.ensures, c.depth.ensures))
    (subst (λ (n : ℕ). IsSome (fin.get c.self.inside.tree (take n c.args.path.now))) up c.in-Some.ensures.0)
    (c.in-Some.ensures.1 ∙ ap (λ (n : ℕ). row_at c.self.inside.tree (take n c.args.path.now)) up) in
    let met = blocked-is c.self.inside.tree c.self.inside.processes c.args.self.now c.self.view_is c.args.path.now _ first in
    let whole = c.self.invariant.has_slots.whole in
    let groups = len-is c.self.inside.tree c.self.inside.processes c.args.self.now c.self.view_is in
    make_full g.M.Meter.SLOTS c.args.self.now c.args.path.now c.saturating_sub-n.result up absent above met (grind (arith, nat_tests, sym c.is_empty.ensures ∙ c.if-is_empty.true, whole, groups))

pub returns-clause-first : goal.returns-clause-first
returns-clause-first g c =
    let absent = group-is c.args.self.now c.self.inside.tree c.self.inside.processes c.self.view_is c.args.path.now ∙ sym (matched c.find_row.result (fin.get c.self.inside.tree c.args.path.now) _ c.find_row.ensures) ∙ sym c.is_some.ensures ∙ c.if-is_some.false in
    let up : c.saturating_sub-n.result ≡ length c.args.path.now - 1 = c.saturating_sub-n.ensures ∙ ap (λ n. n - 1) c.depth.ensures in
    let above = group-is c.args.self.now c.self.inside.tree c.self.inside.processes c.self.view_is (take c.saturating_sub-n.result c.args.path.now) ∙ c.in-Some.ensures.0 in
    let named = has_names c.self.inside.tree c.self.invariant.has_slots.closed c.args.path.now (is_none (fin.get c.self.inside.tree c.args.path.now)
    (sym (matched c.find_row.result (fin.get c.self.inside.tree c.args.path.now) _ c.find_row.ensures) ∙ sym c.is_some.ensures ∙ c.if-is_some.false)) in
    let first = c.in_default-first_met.ensures.first c.args.path.now (omega (arith, named, c.saturating_sub-n.ensures, c.depth.ensures))
    (subst (λ (n : ℕ). IsSome (fin.get c.self.inside.tree (take n c.args.path.now))) up c.in-Some.ensures.0)
    (c.in-Some.ensures.1 ∙ ap (λ (n : ℕ). row_at c.self.inside.tree (take n c.args.path.now)) up) in
    let met = blocked-is c.self.inside.tree c.self.inside.processes c.args.self.now c.self.view_is c.args.path.now _ first in
    let whole = c.self.invariant.has_slots.whole in
    let groups = len-is c.self.inside.tree c.self.inside.processes c.args.self.now c.self.view_is in
    make_allowed g.M.Meter.SLOTS c.args.self.now c.args.path.now c.saturating_sub-n.result up absent above met (grind (arith, nat_tests, sym c.is_empty.ensures ∙ c.if-is_empty.false, whole, groups))
