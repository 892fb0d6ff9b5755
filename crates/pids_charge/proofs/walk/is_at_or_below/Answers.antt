use Rattle.std.proofs.Common.{◌-◌, length, arith}
use Rattle.flat_model.specs.Path.{Path}
use Rattle.pids_charge.proofs.ParentSteps.{of_group}
use Rattle.pids_charge.proofs.RowWalks.{begun, further, found, passed}
use Rattle.pids_charge.proofs.walk.is_at_or_below.Goals as goal

pub loop-up-init : goal.loop-up-init
loop-up-init g c = λ p i e. begun c.args.tree.now p c.args.top c.args.at e

pub up-met-requires : goal.up-met-requires
up-met-requires g c =
    let p : Path = c.requires.group.path in
    of_group c.args.tree.now p c.requires.group.there c.known.ensures.prefixes c.loop-up.met (length p - c.loop-up._up) (c.loop-up.invariant p c.requires.group.there c.requires.group.here).here

pub loop-up-preserved : goal.loop-up-preserved
loop-up-preserved g c = λ p i e.
    further c.args.tree.now c.known.ensures.prefixes p i c.args.top c.loop-up._up c.loop-up.met (c.loop-up.invariant p i e)
    (λ same. omega (arith, c.if-met-top.false, same)) (omega (arith, c.if-met-eq0.false)) c.up-met.result c.up-met.ensures

pub returns-then-met-top : goal.returns-then-met-top
returns-then-met-top g c = λ p q i j e t.
    found c.args.tree.now c.known.ensures.prefixes p i c.args.top c.loop-up._up c.loop-up.met (c.loop-up.invariant p i e)
    c.known.ensures.apart q j t (omega (arith, c.if-met-top.true))

pub returns-then-met-eq0 : goal.returns-then-met-eq0
returns-then-met-eq0 g c = λ p q i j e t.
    passed c.args.tree.now c.known.ensures.prefixes p i c.args.top c.loop-up._up c.loop-up.met (c.loop-up.invariant p i e)
    q t (λ same. omega (arith, c.if-met-top.false, same)) (omega (arith, c.if-met-eq0.true))

pub returns : goal.returns
returns g c = λ p q i j e t.
    let way = c.loop-up.invariant p i e in
    let few = way.few in
    let short = c.requires.shallow p i in
    absurd (omega (arith, few, short))
