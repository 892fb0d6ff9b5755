use Rattle.std.proofs.Common.{◌∙◌, ap, arith}
use Rattle.snzi_core.specs.Holding.{out, main_weight}
use Rattle.snzi_core.proofs.SplitBalance.{one_out_main, one_out_out}
use Rattle.snzi_tree.specs.Hands.{holds}
use Rattle.indicator_tests.proofs.threads.split_one.Goals as goal

pub returns-clause-main : goal.returns-clause-main
returns-clause-main c =
    let e = c.split.ensures in
    let h = e.held.1 in
    (e.hand.0.0 ∙ c.requires.here.0, ap main_weight e.parts.4 ∙ one_out_main (holds c.args.main.now).role ∙ c.requires.here.1, omega (arith, h))

pub returns-clause-out : goal.returns-clause-out
returns-clause-out c = ap out c.split.ensures.parts.4 ∙ one_out_out (holds c.args.main.now).role c.requires.here.1
