use Rattle.std.proofs.Common.{arith}
use Rattle.std.proofs.lemmas.Grind.{common_steps}
use Rattle.snzi_core.proofs.Start.{start_kept}
use Rattle.snzi_core.proofs.machine.Core.new.Goals as goal

pub invariant_of-result : goal.invariant_of-result
invariant_of-result g c =
    start_kept c.args.slots c.args.nodes c.in_ok-words.words.items c.push.new.self.items
    (c.in_ok-words.ensures.items_if_clones_equal (λ y e. e)) (grind (arith, common_steps)) c.requires.nodes
