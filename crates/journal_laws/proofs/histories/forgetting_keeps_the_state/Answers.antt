use Rattle.std.proofs.Common.{◌≡◌, ◌+◌, length, arith}
use Rattle.journal_laws.proofs.ForgetLaws.{forgets_alike, empty}
use Rattle.journal_laws.proofs.histories.forgetting_keeps_the_state.Goals as goal

pub returns-clause-well_formed : goal.returns-clause-well_formed
returns-clause-well_formed c = λ slots m w. (w.0, tt)

pub returns-clause-replies : goal.returns-clause-replies
returns-clause-replies c = λ slots m cs own. (forgets_alike slots m cs own).0

pub returns-clause-after : goal.returns-clause-after
returns-clause-after c = λ slots m cs own. (forgets_alike slots m cs own).1

pub returns-clause-counted : goal.returns-clause-counted
returns-clause-counted c = λ t room. grind (arith, room)

pub returns-clause-never : goal.returns-clause-never
returns-clause-never c = λ t z.
    let none : t.forgotten + length t.machine.past ≡ 0 = grind (arith, z) in
    (omega (arith, none), empty t.machine.past (omega (arith, none)))
