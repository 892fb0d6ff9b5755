use Rattle.std.proofs.Common.{rules, ◌≡◌, ◌≢◌, ℕ, ◌∙◌, subst, arith}
use Rattle.snzi_core.specs.Holding.{gain, lose}
use Rattle.snzi_core.specs.Changes.{Moves}
use Rattle.snzi_core.specs.Shape.{node_word}
use Rattle.snzi_tree.specs.Depths.{halved}
use Rattle.snzi_tree.specs.Hands.{holds}
use Rattle.snzi_tree.proofs.OneToken.{moves_used, moves_back, back_has}
use Rattle.snzi_tree.proofs.NodePaths.{depth_up}
use Rattle.snzi_tree.proofs.board.Board.descend.Goals as goal

pub depart_at-requires : goal.depart_at-requires
depart_at-requires g c =
    let w = g.row.W in
    let l = g.row.L in
    let e = c.node-word.ensures in
    let child = e.child c.requires.place.1 in
    let p : ℕ = node_word w l c.args.slot (halved c.args.node) in
    let apart : p ≢ c.node-word.result = λ q. child.1 (child.0 ∙ q) in
    let n = c.requires.place.2 in (
      search rules,
      (
        c.child_add.ensures.hand.0 ∙ c.requires.here,
        (
          (c.requires.place.0, omega (arith, n)),
          back_has (holds c.args.hand.now) _ c.node-word.result p apart c.requires.token (c.child_add.ensures.spare c.if-child_add.true),
        ),
      ),
    )

pub returns-then-child_add-clause-token : goal.returns-then-child_add-clause-token
returns-then-child_add-clause-token g c =
    let w = g.row.W in
    let l = g.row.L in
    let e = c.node-word.ensures in
    let child = e.child c.requires.place.1 in
    let p : ℕ = node_word w l c.args.slot (halved c.args.node) in
    let apart : p ≢ c.node-word.result = λ q. child.1 (child.0 ∙ q) in
    let h = holds c.args.hand.now in
    let k = holds c.depart_at.new.hand in
    subst (λ (j : ℕ). Moves p j h k) e.place.0 (moves_back h _ k c.node-word.result p apart (c.child_add.ensures.spare c.if-child_add.true) c.depart_at.ensures.token)

pub returns-else-child_add-clause-token : goal.returns-else-child_add-clause-token
returns-else-child_add-clause-token g c =
    let w = g.row.W in
    let l = g.row.L in
    let e = c.node-word.ensures in
    let child = e.child c.requires.place.1 in
    let p : ℕ = node_word w l c.args.slot (halved c.args.node) in
    let apart : p ≢ c.node-word.result = λ q. child.1 (child.0 ∙ q) in
    let h = holds c.args.hand.now in
    let k = holds c.child_add.new.hand in
    subst (λ (j : ℕ). Moves p j h k) e.place.0
    (moves_used h k c.node-word.result p apart c.requires.token
    (subst (λ (q : ℕ). k ≡ lose (gain h c.node-word.result) q) child.0 (c.child_add.ensures.used c.if-child_add.false)))

pub returns-then-child_add-clause-steps : goal.returns-then-child_add-clause-steps
returns-then-child_add-clause-steps g c =
    let d = depth_up c.args.node c.requires.place.1 in
    let a = c.child_add.ensures.steps in
    let b = c.depart_at.ensures.steps in
    omega (arith, d, a, b)
