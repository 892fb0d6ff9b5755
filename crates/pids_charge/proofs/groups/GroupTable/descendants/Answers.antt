use Rattle.pids_charge.proofs.groups.GroupTable.descendants.Goals as goal

pub below-requires : goal.below-requires
below-requires g c = record { path = c.args.path.now; there = c.in-Some.ensures.0; here = c.in-Some.ensures.1 }

pub returns-in-Some : goal.returns-in-Some
returns-in-Some g c = (c.in-Some.ensures.0, c.below.ensures c.args.path.now c.in-Some.ensures.0 c.in-Some.ensures.1)
