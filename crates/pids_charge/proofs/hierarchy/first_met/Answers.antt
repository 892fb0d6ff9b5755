use Rattle.std.proofs.Common.{◌+◌, ◌-◌, length, take, refl, ◌∙◌, arith}
use Rattle.flat_model.specs.Path.{Path, parent}
use Rattle.flat_model.proofs.PathLaws.{take_above}
use Rattle.pids_charge.proofs.FirstLimits.{far_is, first_here, front_is, none_met, one_further}
use Rattle.pids_charge.proofs.ParentSteps.{at_own, of_group, parent_of_front}
use Rattle.pids_charge.proofs.hierarchy.first_met.Goals as goal

pub loop-levels-init : goal.loop-levels-init
loop-levels-init g c = record { at = λ q there here. at_own c.args.tree.now q c.args.above here; none = λ p names there here. refl }

pub met_in-requires : goal.met_in-requires
met_in-requires g c =
    let own = c.requires.parent in
    of_group c.args.tree.now own.path own.there c.known.ensures.prefixes c.loop-levels.at (length own.path - c.loop-levels.levels) (c.loop-levels.invariant.at own.path own.there own.here)

pub up-at-requires : goal.up-at-requires
up-at-requires g c =
    let own = c.requires.parent in
    of_group c.args.tree.now own.path own.there c.known.ensures.prefixes c.loop-levels.at (length own.path - c.loop-levels.levels) (c.loop-levels.invariant.at own.path own.there own.here)

pub returns-in-Some-clause-first : goal.returns-in-Some-clause-first
returns-in-Some-clause-first g c = λ p names home here.
    let q : Path = parent p in
    let own : Path = take (length q - c.loop-levels.levels) q in
    let there = c.known.ensures.prefixes q own home (take_above (length q - c.loop-levels.levels) q) in
    let n = c.args.n - c.loop-levels.levels in
    let at = c.loop-levels.invariant.at q home here in
    let front = front_is c.args.tree.now p (omega (arith, names)) c.loop-levels.levels n (omega (arith, names)) (omega (arith, names)) in
    let far = far_is c.args.tree.now p (omega (arith, names)) c.loop-levels.levels n (omega (arith, names)) (omega (arith, names)) in
    first_here c.args.tree.now p (omega (arith, names)) c.loop-levels.levels n (omega (arith, names)) (omega (arith, names))
    c.in-Some.met (c.in-Some.ensures.met p own there at front far) c.in-Some.ensures.inside (c.loop-levels.invariant.none p names home here)

pub loop-levels-preserved : goal.loop-levels-preserved
loop-levels-preserved g c = record {
  at = λ q there here.
      let own : Path = take (length q - c.loop-levels.levels) q in
      c.up-at.ensures own (c.known.ensures.prefixes q own there (take_above (length q - c.loop-levels.levels) q)) (c.loop-levels.invariant.at q there here)
      ∙ parent_of_front c.args.tree.now q c.loop-levels.levels;
  none = λ p names home here.
      let q : Path = parent p in
      let own : Path = take (length q - c.loop-levels.levels) q in
      let there = c.known.ensures.prefixes q own home (take_above (length q - c.loop-levels.levels) q) in
      let n = c.args.n - c.loop-levels.levels in
      let at = c.loop-levels.invariant.at q home here in
      let front = front_is c.args.tree.now p (omega (arith, names)) c.loop-levels.levels n (omega (arith, names)) (omega (arith, names)) in
      let far = far_is c.args.tree.now p (omega (arith, names)) c.loop-levels.levels n (omega (arith, names)) (omega (arith, names)) in
      one_further c.args.tree.now p (omega (arith, names)) c.loop-levels.levels n (omega (arith, names)) (omega (arith, names))
      (c.loop-levels.levels + 1) (omega arith) (c.in_default.ensures.met p own there at front far) (c.loop-levels.invariant.none p names home here);
}

pub returns-clause-first : goal.returns-clause-first
returns-clause-first g c = λ p names home here. none_met c.args.tree.now p (omega (arith, names)) c.loop-levels.levels (omega (arith, names)) (c.loop-levels.invariant.none p names home here)
