use Rattle.std.proofs.Common.{refl, arith, ◌∙◌, ◌^◌, ◌-◌}
use Rattle.pids_charge.specs.GroupRows.{stepped}
use Rattle.pids_charge.proofs.BelowSteps.{attrs_same, begun, last_step, next_step, row_there, ups_same}
use Rattle.pids_charge.proofs.groups.change_below.Goals as goal

pub loop-up-init : goal.loop-up-init
loop-up-init g c = record {
  attrs = refl;
  ups = refl;
  left = λ tree p is. begun (stepped (2 ^ 32 - 1) c.args.change) tree c.args.rows.now.items p c.args.first is c.from-at.result c.from-at.ensures;
}

pub index_mut-row-requires : goal.index_mut-row-requires
index_mut-row-requires g c =
    let some = c.requires in
    let inside = row_there (stepped (2 ^ 32 - 1) c.args.change) some.tree c.args.rows.now.items some.path c.args.first some.is
    c.loop-up.rows.items c.loop-up.invariant.attrs c.loop-up.invariant.ups c.loop-up._up c.loop-up.at (c.loop-up.invariant.left some.tree some.path some.is) in
    omega (arith, inside)

pub returns-then-at-eq0-clause-attrs : goal.returns-then-at-eq0-clause-attrs
returns-then-at-eq0-clause-attrs g c =
    attrs_same c.loop-up.rows.items c.loop-up.at c.index_mut-row.result.now c.index_mut-row.ensures.value c.of_below-row.result ∙ c.loop-up.invariant.attrs

pub returns-then-at-eq0-clause-ups : goal.returns-then-at-eq0-clause-ups
returns-then-at-eq0-clause-ups g c =
    ups_same c.loop-up.rows.items c.loop-up.at c.index_mut-row.result.now c.index_mut-row.ensures.value c.of_below-row.result ∙ c.loop-up.invariant.ups

pub returns-then-at-eq0-clause-below : goal.returns-then-at-eq0-clause-below
returns-then-at-eq0-clause-below g c = λ tree p is.
    last_step (stepped (2 ^ 32 - 1) c.args.change) tree c.args.rows.now.items p c.args.first is
    c.loop-up.rows.items c.loop-up.invariant.attrs c.loop-up.invariant.ups c.loop-up._up c.loop-up.at (c.loop-up.invariant.left tree p is)
    c.index_mut-row.result.now c.index_mut-row.ensures.value c.of_below-row.result c.of_below-row.ensures (omega (arith, c.if-at-eq0.true))

pub loop-up-preserved : goal.loop-up-preserved
loop-up-preserved g c = record {
  attrs = attrs_same c.loop-up.rows.items c.loop-up.at c.index_mut-row.result.now c.index_mut-row.ensures.value c.of_below-row.result ∙ c.loop-up.invariant.attrs;
  ups = ups_same c.loop-up.rows.items c.loop-up.at c.index_mut-row.result.now c.index_mut-row.ensures.value c.of_below-row.result ∙ c.loop-up.invariant.ups;
  left = λ tree p is.
      next_step (stepped (2 ^ 32 - 1) c.args.change) tree c.args.rows.now.items p c.args.first is
      c.loop-up.rows.items c.loop-up.invariant.attrs c.loop-up.invariant.ups c.loop-up._up c.loop-up.at (c.loop-up.invariant.left tree p is)
      c.index_mut-row.result.now c.index_mut-row.ensures.value c.of_below-row.result c.of_below-row.ensures
      (λ e. omega (arith, c.if-at-eq0.false, e)) c.from-at-in-loop-up.result c.from-at-in-loop-up.ensures;
}

pub returns-clause-below : goal.returns-clause-below
returns-clause-below g c = λ tree p is.
    let on = c.loop-up.invariant.left tree p is in
    let steps = on.steps in
    let shallow = is.shallow in
    absurd (omega (arith, steps, shallow))
