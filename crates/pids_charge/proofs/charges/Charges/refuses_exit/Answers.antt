use Rattle.std.proofs.Common.{sym, ◌∙◌}
use Rattle.pids_charge.proofs.FlatGroups.{process-is}
use Rattle.pids_charge.proofs.ProcessExits.{exit_no_process, exit_allowed}
use Rattle.pids_charge.proofs.charges.Charges.refuses_exit.Goals as goal

pub returns-then-not-has_row-clause-first : goal.returns-then-not-has_row-clause-first
returns-then-not-has_row-clause-first g c = λ p.
    exit_no_process g.M.Meter.SLOTS c.args.self.now c.args.pid
    (process-is c.args.self.now c.self.inside.tree c.self.inside.processes c.self.view_is c.self.invariant.recounted.ordered c.args.pid ∙ sym c.has_row.ensures ∙ c.if-not-has_row.true)

pub returns-clause-first : goal.returns-clause-first
returns-clause-first g c = λ _.
    exit_allowed g.M.Meter.SLOTS c.args.self.now c.args.pid
    (process-is c.args.self.now c.self.inside.tree c.self.inside.processes c.self.view_is c.self.invariant.recounted.ordered c.args.pid ∙ sym c.has_row.ensures ∙ c.if-not-has_row.false)
