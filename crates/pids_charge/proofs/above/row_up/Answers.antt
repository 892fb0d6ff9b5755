use Rattle.std.proofs.Common.{◌≡◌, ℕ, ◌-◌, length, take, arith, ap, ◌∙◌}
use Rattle.flat_model.specs.Path.{Path}
use Rattle.flat_model.proofs.PathLaws.{take_above}
use Rattle.pids_charge.specs.Lists.{row_at}
use Rattle.pids_charge.proofs.ParentSteps.{at_own, of_group, parent_of_front}
use Rattle.pids_charge.proofs.above.row_up.Goals as goal

pub loop-up-init : goal.loop-up-init
loop-up-init g c = λ p there here. at_own c.args.tree.now p c.args.row here

pub up-at-requires : goal.up-at-requires
up-at-requires g c =
    let own = c.requires.group in
    of_group c.args.tree.now own.path own.there c.known.ensures.prefixes c.loop-up.at (length own.path - c.loop-up._up) (c.loop-up.invariant own.path own.there own.here)

pub loop-up-preserved : goal.loop-up-preserved
loop-up-preserved g c = λ p there here.
    let own : Path = take (length p - c.loop-up._up) p in
    c.up-at.ensures own (c.known.ensures.prefixes p own there (take_above (length p - c.loop-up._up) p)) (c.loop-up.invariant p there here)
    ∙ parent_of_front c.args.tree.now p c.loop-up._up

pub returns : goal.returns
returns g c = λ p there here.
    let all : c.loop-up._up ≡ c.args.levels = omega (arith, c.loop-up-test.false) in
    c.loop-up.invariant p there here ∙ ap (λ (n : ℕ). row_at c.args.tree.now (take (length p - n) p)) all
