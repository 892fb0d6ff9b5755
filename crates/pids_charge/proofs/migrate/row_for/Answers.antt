use Rattle.std.proofs.Common.{is_some, refl, sym, ap, ◌∙◌}
use Rattle.flat_model.specs.State.{State}
use Rattle.pids_charge.specs.Recount.{state_of}
use Rattle.pids_charge.proofs.FlatGroups.{group-is, process-is, move_no_group, move_no_process, move_allowed}
use Rattle.pids_charge.proofs.migrate.row_for.Goals as goal

pub returns-in_default-clause-first : goal.returns-in_default-clause-first
returns-in_default-clause-first g c =
    let s : State = state_of c.args.tree.now c.args.processes.now in
    move_no_group g.M.Meter.SLOTS s c.args.path.now c.args.pid c.depth.result
    (group-is s c.args.tree.now c.args.processes.now refl c.args.path.now ∙ ap is_some c.in_default.ensures) c.depth.ensures

pub returns-then-not-has_row-clause-first : goal.returns-then-not-has_row-clause-first
returns-then-not-has_row-clause-first g c =
    let s : State = state_of c.args.tree.now c.args.processes.now in
    move_no_process g.M.Meter.SLOTS s c.args.path.now c.args.pid
    (group-is s c.args.tree.now c.args.processes.now refl c.args.path.now ∙ c.in-Some.ensures.0)
    (process-is s c.args.tree.now c.args.processes.now refl c.known.ensures c.args.pid ∙ sym c.has_row.ensures ∙ c.if-not-has_row.true)

pub returns-clause-allowed : goal.returns-clause-allowed
returns-clause-allowed g c =
    let s : State = state_of c.args.tree.now c.args.processes.now in
    move_allowed g.M.Meter.SLOTS s c.args.path.now c.args.pid
    (group-is s c.args.tree.now c.args.processes.now refl c.args.path.now ∙ c.in-Some.ensures.0)
    (process-is s c.args.tree.now c.args.processes.now refl c.known.ensures c.args.pid ∙ sym c.has_row.ensures ∙ c.if-not-has_row.false)
