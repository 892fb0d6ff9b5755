use Rattle.std.proofs.Common.{◌≡◌, ℕ, ◌+◌, ◌-◌, length, ap, arith, sym}
use Rattle.flat_model.specs.Path.{Path}
use Rattle.pids_charge.specs.Recount.{chain_at}
use Rattle.pids_charge.proofs.OneMore.{one_at-here}
use Rattle.pids_charge.proofs.ParentSteps.{of_group, step_up, at_own}
use Rattle.pids_charge.proofs.walk.uncharge_up.Goals as goal

pub loop-up-init : goal.loop-up-init
loop-up-init g c =
    let p : Path = c.args.process.now.home in
    let whole : length p - 0 ≡ length p = omega arith in
    record {
      bound = omega arith;
      at = at_own c.args.tree.now p _ c.requires.placed.row;
      content = λ s j. ap (λ (n : ℕ). g.M.Meter.content c.args.meter.now s j + chain_at c.args.tree.now p n c.args.process.now.leaf s j) (sym whole);
      held = ap (λ (n : ℕ). g.M.Meter.held c.args.meter.now + n) (sym whole);
    }

pub uncharge-requires-clause-charged : goal.uncharge-requires-clause-charged
uncharge-requires-clause-charged g c =
    let p : Path = c.args.process.now.home in
    let up = step_up c.args.tree.now p c.requires.placed.home c.known.ensures.prefixes
    c.loop-up.at (length p - c.loop-up._up) (length p - (c.loop-up._up + 1)) (omega arith) c.loop-up.invariant.at (omega (arith, c.if-at-eq0.false)) (omega arith) in
    let slot : ℕ = c.loop-up.at - 1 in
    let leaf : ℕ = c.args.process.now.leaf in
    omega (arith, up.one_less leaf slot leaf, one_at-here slot leaf, c.loop-up.invariant.content slot leaf, c.requires.charged slot leaf)

pub up-at-requires : goal.up-at-requires
up-at-requires g c = of_group c.args.tree.now c.args.process.now.home c.requires.placed.home c.known.ensures.prefixes c.loop-up.at (length c.args.process.now.home - c.loop-up._up) c.loop-up.invariant.at

pub loop-up-preserved : goal.loop-up-preserved
loop-up-preserved g c =
    let p : Path = c.args.process.now.home in
    let up = step_up c.args.tree.now p c.requires.placed.home c.known.ensures.prefixes
    c.loop-up.at (length p - c.loop-up._up) (length p - (c.loop-up._up + 1)) (omega arith) c.loop-up.invariant.at (omega (arith, c.if-at-eq0.false)) (omega arith) in
    record {
      bound = omega arith;
      at = up.next c.up-at.result c.up-at.ensures;
      content = λ s j. omega (arith, c.uncharge.ensures.content s j, c.loop-up.invariant.content s j, up.one_less c.args.process.now.leaf s j);
      held = omega (arith, c.uncharge.ensures.held, c.loop-up.invariant.held, up.more);
    }
