use Rattle.std.proofs.Common.{◌∙◌, ap, arith}
use Rattle.snzi_core.specs.Holding.{main_weight}
use Rattle.snzi_core.proofs.SplitBalance.{one_back_main}
use Rattle.snzi_tree.specs.Hands.{holds}
use Rattle.indicator_tests.proofs.threads.join_one.Goals as goal

pub returns : goal.returns
returns c =
    let e = c.join.ensures in
    let h = e.held in
    let few = c.requires.helper.2 in
    record { main = (e.hand.0 ∙ c.requires.here.0, ap main_weight e.unites.3 ∙ one_back_main (holds c.args.main.now).role ∙ c.requires.here.1, omega (arith, h, few)) }
