use Rattle.indicator_laws.proofs.boards.amounts_come_to_one_slot.Goals as goal

pub returns-clause-not : goal.returns-clause-not
returns-clause-not c = λ f. let e = f 0 in cc
