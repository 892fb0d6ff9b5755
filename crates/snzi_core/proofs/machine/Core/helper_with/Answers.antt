use Rattle.std.proofs.Common.{rules, arith, ◌∙◌}
use Rattle.snzi_core.proofs.CoreSplits.{share_none, share_more, share_room, token_inside}
use Rattle.snzi_core.proofs.machine.Core.helper_with.Goals as goal

pub loop-token-init : goal.loop-token-init
loop-token-init g c = share_none c.args.self.now c.args.share.now c.in_ok-helper.helper c.len.result c.in_ok-helper.ensures (search rules)

pub gain-requires : goal.gain-requires
gain-requires g c =
    let in_shape = token_inside c.args.self.now c.args.share.now c.loop-token.token-index _ c.requires c.loop-token-test.true in
    let low = c.token_word.ensures.inside in_shape.0 in_shape.1 in
    let r = share_room c.args.self.now c.args.share.now c.loop-token.token-index c.token_word.result c.loop-token.helper c.loop-token.invariant low c.loop-token-test.true in
    record { place = r.0; room = let a = r.1 in omega arith }

pub loop-token-preserved : goal.loop-token-preserved
loop-token-preserved g c =
    let in_shape = token_inside c.args.self.now c.args.share.now c.loop-token.token-index _ c.requires c.loop-token-test.true in
    let low = c.token_word.ensures.inside in_shape.0 in_shape.1 in
    c.gain.ensures ∙ share_more c.args.self.now c.args.share.now c.loop-token.token-index c.token_word.result _ c.loop-token.helper
    c.loop-token.invariant c.loop-token-test.true c.token_word.ensures.value low
