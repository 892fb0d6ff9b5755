use Rattle.std.proofs.Common.{arith}
use Rattle.snzi_core.specs.Balance.{here}
use Rattle.snzi_tree.proofs.NodePaths.{path_up, path_in, path_pos}
use Rattle.snzi_tree.proofs.board.Board.toward.Goals as goal

pub up-init : goal.up-init
up-init g c = record { place = omega arith; low = here; high = c.requires.0; apart = c.requires.1 }

pub overflow_sub-parent : goal.overflow_sub-parent
overflow_sub-parent g c = path_pos c.args.top c.up.at c.up.invariant.high c.up.invariant.apart

pub up-smaller : goal.up-smaller
up-smaller g c = let p = path_pos c.args.top c.up.at c.up.invariant.high c.up.invariant.apart in omega (arith, p)

pub up-preserved : goal.up-preserved
up-preserved g c =
    let i = c.up.invariant in
    let p = path_pos c.args.top c.up.at i.high i.apart in
    let n = i.place in
    record { place = omega (arith, p, n); low = path_up c.up.at c.args.node i.low p; high = path_in c.args.top c.up.at i.high i.apart; apart = c.if-parent-top.false }
