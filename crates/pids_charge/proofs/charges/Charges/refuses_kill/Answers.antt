use Rattle.std.proofs.Common.{◌<◌, length, not, arith, ap, ◌∙◌}
use Rattle.pids_charge.proofs.FlatGroups.{group-found, kill_no_group, kill_allowed}
use Rattle.pids_charge.proofs.charges.Charges.refuses_kill.Goals as goal

pub returns-then-is_none-clause-first : goal.returns-then-is_none-clause-first
returns-then-is_none-clause-first g c =
    let is = group-found c.args.self.now c.self.inside.tree c.self.inside.processes c.self.view_is c.args.path.now c.find.result
    c.is_none.result c.find.ensures c.is_none.ensures ∙ ap not c.if-is_none.true in
    let long : 0 < length c.args.path.now = omega arith in
    kill_no_group g.M.Meter.SLOTS c.args.self.now c.args.path.now c.depth-then-is_none.result long is c.depth-then-is_none.ensures

pub returns-clause-first : goal.returns-clause-first
returns-clause-first g c =
    let is = group-found c.args.self.now c.self.inside.tree c.self.inside.processes c.self.view_is c.args.path.now c.find.result
    c.is_none.result c.find.ensures c.is_none.ensures ∙ ap not c.if-is_none.false in
    let long : 0 < length c.args.path.now = omega arith in
    kill_allowed g.M.Meter.SLOTS c.args.self.now c.args.path.now long is
