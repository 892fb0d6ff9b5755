use Rattle.std.proofs.Common.{ℕ, ◌<◌, ap, ◌∙◌, subst, arith}
use Rattle.snzi_core.specs.declared.holding.Holding.{Holding}
use Rattle.std.proofs.Common.{refl}
use Rattle.snzi_core.specs.Balance.{here}
use Rattle.snzi_core.specs.Changes.{Gains}
use Rattle.snzi_core.specs.Shape.{node_word}
use Rattle.snzi_tree.specs.Hands.{holds}
use Rattle.snzi_tree.proofs.OneToken.{gains}
use Rattle.snzi_tree.proofs.NodePaths.{depth_up, path_up}
use Rattle.snzi_tree.proofs.board.Board.climb.Goals as goal

pub returns-then-at-eq0-clause-token : goal.returns-then-at-eq0-clause-token
returns-then-at-eq0-clause-token g c =
    let is = c.node-word.ensures.place.0 ∙ ap (λ (a : ℕ). node_word g.row.W g.row.L c.args.slot a) c.if-at-eq0.true in
    subst (λ (z : ℕ × Holding). Gains z.0 z.1 (holds c.root_add.new.hand)) (λ i. (is i, c.up.invariant.same i)) (gains (holds c.up.hand) _ _ c.root_add.ensures.token)

pub returns-then-try_fast-clause-token : goal.returns-then-try_fast-clause-token
returns-then-try_fast-clause-token g c =
    let is = c.node-word.ensures.place.0 in
    subst (λ (z : ℕ × Holding). Gains z.0 z.1 (holds c.try_fast.new.hand)) (λ i. (is i, c.up.invariant.same i)) (gains (holds c.up.hand) _ _ (c.try_fast.ensures.won c.if-try_fast.true))

pub up-init : goal.up-init
up-init g c = record { steps = omega arith; counts = omega arith; place = omega arith; hand = (refl, refl); joined = refl; path = here; same = refl }

pub up-preserved : goal.up-preserved
up-preserved g c =
    let i = c.up.invariant in
    let nz = c.if-at-eq0.false in
    let some : 0 < c.up.at = omega (arith, nz) in
    let n = i.place in
    let e = c.try_fast.ensures in
    let d = depth_up c.up.at some in
    let t = i.steps in
    record {
      steps = omega (arith, d, t, e.steps);
      counts = let u = i.counts in omega (arith, u, e.counts);
      place = omega (arith, n);
      hand = (e.hand.0 ∙ i.hand.0, e.hand.1 ∙ i.hand.1);
      joined = e.joined ∙ i.joined;
      path = path_up c.up.at c.args.node i.path some;
      same = e.lost c.if-try_fast.false ∙ i.same;
    }
