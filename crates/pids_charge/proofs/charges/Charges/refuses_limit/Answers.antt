use Rattle.std.proofs.Common.{not, sym, ap, ◌∙◌}
use Rattle.group_tree.specs.Flat.{limit_file_of}
use Rattle.pids_charge.proofs.FlatGroups.{group-found}
use Rattle.pids_charge.proofs.LimitWrites.{limit_no_file, limit_no_group, limit_allowed}
use Rattle.pids_charge.proofs.charges.Charges.refuses_limit.Goals as goal

pub returns-then-is_missing-clause-first : goal.returns-then-is_missing-clause-first
returns-then-is_missing-clause-first g c = λ value.
    limit_no_file g.M.Meter.SLOTS c.args.self.now c.args.path.now (limit_file_of c.args.file) value (sym c.is_missing.ensures ∙ c.if-is_missing.true)

pub returns-then-is_none-clause-first : goal.returns-then-is_none-clause-first
returns-then-is_none-clause-first g c = λ value.
    let gone = group-found c.args.self.now c.self.inside.tree c.self.inside.processes c.self.view_is c.args.path.now c.find.result
    c.is_none.result c.find.ensures c.is_none.ensures ∙ ap not c.if-is_none.true in
    limit_no_group g.M.Meter.SLOTS c.args.self.now c.args.path.now (limit_file_of c.args.file) value c.depth.result (sym c.is_missing.ensures ∙ c.if-is_missing.false) gone c.depth.ensures

pub returns-clause-first : goal.returns-clause-first
returns-clause-first g c = λ value.
    let there = group-found c.args.self.now c.self.inside.tree c.self.inside.processes c.self.view_is c.args.path.now c.find.result
    c.is_none.result c.find.ensures c.is_none.ensures ∙ ap not c.if-is_none.false in
    limit_allowed g.M.Meter.SLOTS c.args.self.now c.args.path.now (limit_file_of c.args.file) value (sym c.is_missing.ensures ∙ c.if-is_missing.false) there
