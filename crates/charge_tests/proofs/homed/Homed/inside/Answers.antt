use Rattle.charge_tests.proofs.OneHome.{one_home}
use Rattle.charge_tests.proofs.homed.Homed.inside.Goals as goal

pub inside-requires : goal.inside-requires
inside-requires g c = one_home c.args.self.now.homes.items c.args.self.now.table c.args.self.now.homed
