use Rattle.std.proofs.Common.{rules, ◌≡◌, ◌≢◌, ℕ, ◌-◌, ◌/◌, ◌<◌, sym, ◌∙◌, subst, arith}
use Rattle.snzi_core.specs.Holding.{tokens_at, gain, lose}
use Rattle.snzi_core.specs.Changes.{Loses}
use Rattle.snzi_core.specs.Shape.{node_word}
use Rattle.snzi_tree.specs.Hands.{holds}
use Rattle.snzi_tree.proofs.OneToken.{loses, loses_passed, passed_has}
use Rattle.snzi_tree.proofs.NodePaths.{depth_up}
use Rattle.snzi_tree.proofs.board.Board.depart_at.Goals as goal

pub returns-then-not-leave-clause-token : goal.returns-then-not-leave-clause-token
returns-then-not-leave-clause-token g c =
    let is = c.node-word.ensures.place.0 in
    let h = holds c.up.hand in
    let have = subst (λ (j : ℕ). 0 < tokens_at j h) (sym is) c.up.invariant.token in
    c.up.invariant.rest (holds c.leave.new.hand) (subst (λ (j : ℕ). Loses j h (holds c.leave.new.hand)) is (loses h _ _ have (c.leave.ensures.done c.if-not-leave.true)))

pub up-preserved : goal.up-preserved
up-preserved g c =
    let w = g.row.W in
    let l = g.row.L in
    let is = c.node-word.ensures.place.0 in
    let h = holds c.up.hand in
    let have = subst (λ (j : ℕ). 0 < tokens_at j h) (sym is) c.up.invariant.token in
    let passed = c.leave.ensures.passed c.if-not-leave.false in
    let inner : 0 < c.up.at = search (rules, passed) in
    let child = c.node-word.ensures.child inner in
    let p : ℕ = node_word w l c.args.slot ((c.up.at - 1) / 2) in
    let m = subst (λ (q : ℕ). holds c.leave.new.hand ≡ gain (lose h c.node-word.result) q) child.0 passed.1 in
    let apart : p ≢ c.node-word.result = λ e. child.1 (child.0 ∙ e) in
    let inside = c.up.invariant.place in
    let d = depth_up c.up.at inner in
    let t = c.up.invariant.steps in
    let e = c.leave.ensures.steps in
    record {
      steps = omega (arith, d, t, e);
      counts = let u = c.up.invariant.counts in omega (arith, u, e);
      place = omega (arith, inside);
      hand = (c.leave.ensures.hand.0 ∙ c.up.invariant.hand.0, c.leave.ensures.hand.1 ∙ c.up.invariant.hand.1);
      joined = c.leave.ensures.joined ∙ c.up.invariant.joined;
      token = passed_has h (holds c.leave.new.hand) c.node-word.result p m;
      rest = λ k t. c.up.invariant.rest k (subst (λ (j : ℕ). Loses j h k) is (loses_passed h (holds c.leave.new.hand) k c.node-word.result p apart have m t));
    }
