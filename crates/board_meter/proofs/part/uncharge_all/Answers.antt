use Rattle.std.proofs.Common.{rules, ◌∙◌}
use Rattle.snzi_tree.specs.Hands.{holds}
use Rattle.snzi_tree.specs.Contents.{content_of}
use Rattle.pids_charge.proofs.Tokens.{still_charged}
use Rattle.board_meter.proofs.part.uncharge_all.Goals as goal

pub uncharge-requires : goal.uncharge-requires
uncharge-requires g c =
    let i = c.loop-token.invariant in
    let k = c.loop-token.token-index in
    let p = c.requires.place.0 k _ c.loop-token-test.true in (
      Prim.search rules,
      (
        i.hand.0 ∙ c.requires.here,
        (
          (p.0, p.1, c.requires.place.1),
          still_charged (content_of g.row.W g.row.L (holds c.args.hand.now)) (content_of g.row.W g.row.L (holds c.loop-token.hand))
              c.args.leaving.now k _ c.loop-token-test.true i.content c.requires.charged,
        ),
      ),
    )
