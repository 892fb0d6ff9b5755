use Rattle.pids_charge.proofs.groups.GroupTable.find.Goals as goal

pub row-requires : goal.row-requires
row-requires g c = record { path = c.args.path.now; there = c.in-Some.ensures.0; here = c.in-Some.ensures.1 }

pub returns-in-Some : goal.returns-in-Some
returns-in-Some g c = c.row.ensures c.args.path.now c.in-Some.ensures.0 c.in-Some.ensures.1
