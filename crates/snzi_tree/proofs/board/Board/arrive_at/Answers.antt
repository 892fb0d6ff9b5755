use Rattle.std.proofs.Common.{ℕ, ◌≢◌, ◌∙◌, subst, arith}
use Rattle.snzi_core.specs.Changes.{Moves}
use Rattle.snzi_core.specs.Shape.{node_word}
use Rattle.snzi_tree.specs.Hands.{holds}
use Rattle.snzi_tree.proofs.OneToken.{gains_moved}
use Rattle.snzi_tree.proofs.NodePaths.{down_next}
use Rattle.snzi_tree.proofs.board.Board.arrive_at.Goals as goal

pub down-preserved : goal.down-preserved
down-preserved g c =
    let w = g.row.W in
    let l = g.row.L in
    let i = c.down.invariant in
    let t = c.toward-next.ensures in
    let e = c.descend.ensures in
    let low = t.2 in
    let next : ℕ = c.toward-next.result in
    let at : ℕ = c.down.at in
    let d = down_next next at t.0 t.1 in
    let s = i.steps in
    let n = i.counts in
    let moves = subst (λ (p : ℕ). Moves (node_word w l c.args.slot p) (node_word w l c.args.slot next) (holds c.down.hand) (holds c.descend.new.hand)) t.0 e.token in
    let apart : node_word w l c.args.slot at ≢ node_word w l c.args.slot next = λ same. let q = t.0 in let p = t.1 in absurd (omega (arith, same, q, p)) in
    record {
      steps = let u = e.steps in omega (arith, d, s, u);
      counts = let u = e.counts in omega (arith, n, u);
      place = low;
      path = t.3;
      hand = (e.hand.0 ∙ i.hand.0, e.hand.1 ∙ i.hand.1);
      joined = e.joined ∙ i.joined;
      token = gains_moved (holds c.args.hand.now) (holds c.down.hand) (holds c.descend.new.hand) (node_word w l c.args.slot next) (node_word w l c.args.slot at) apart i.token moves;
    }
