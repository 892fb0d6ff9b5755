use Rattle.std.proofs.Common.{option_map, ap, ◌∙◌}
use Rattle.group_tree.specs.Flat.{group_of}
use Rattle.pids_charge.proofs.FlatGroups.{group-get}
use Rattle.pids_charge.proofs.charges.Charges.attr.Goals as goal

pub returns : goal.returns
returns g c = ap (option_map group_of) c.find.ensures ∙ group-get c.args.self.now c.self.inside.tree c.self.inside.processes c.self.view_is c.args.path.now
