use Rattle.std.proofs.Common.{◌+◌, length, arith, sym, ap, ◌∙◌}
use Rattle.pids_charge.proofs.copy.copy_one.Goals as goal

pub charge_up-requires-clause-group : goal.charge_up-requires-clause-group
charge_up-requires-clause-group g c = record { path = c.args.process.now.home; there = c.requires.home; here = c.requires.row }

pub charge_up-requires-clause-room : goal.charge_up-requires-clause-room
charge_up-requires-clause-room g c = λ p there here.
    let same = ap length (c.known.ensures.apart c.args.process.now.home p c.requires.home there (sym c.requires.row ∙ here)) in
    omega (arith, c.requires.room, same)
