use Rattle.pids_charge.proofs.FlatGroups.{make_open}
use Rattle.pids_charge.proofs.charges.Charges.make_group.Goals as goal

pub put_group_back-requires-clause-new : goal.put_group_back-requires-clause-new
put_group_back-requires-clause-new g c = (make_open g.M.Meter.SLOTS c.args.self.now c.args.path.now c.requires).0

pub put_group_back-requires-clause-parent : goal.put_group_back-requires-clause-parent
put_group_back-requires-clause-parent g c = (make_open g.M.Meter.SLOTS c.args.self.now c.args.path.now c.requires).1

pub put_group_back-requires-clause-slot : goal.put_group_back-requires-clause-slot
put_group_back-requires-clause-slot g c = (make_open g.M.Meter.SLOTS c.args.self.now c.args.path.now c.requires).2
