use Rattle.std.proofs.Common.{is_some, option_copied, refl, sym, ap, ◌∙◌}
use Rattle.flat_model.specs.State.{State}
use Rattle.pids_charge.specs.Recount.{state_of}
use Rattle.pids_charge.proofs.FlatGroups.{process-is}
use Rattle.pids_charge.proofs.ForkOutcomes.{fork_no_process, fork_in_use}
use Rattle.pids_charge.proofs.fork.find_parent.Goals as goal

pub returns-in_default-clause-first : goal.returns-in_default-clause-first
returns-in_default-clause-first g c = λ slots tree p.
    let s : State = state_of tree c.args.processes.now in
    fork_no_process slots s c.args.parent c.args.child
    (process-is s tree c.args.processes.now refl c.known.ensures c.args.parent ∙ ap is_some (sym c.find_row.ensures ∙ ap option_copied c.in_default.is))

pub returns-then-has_row-clause-first : goal.returns-then-has_row-clause-first
returns-then-has_row-clause-first g c = λ slots tree p.
    let s : State = state_of tree c.args.processes.now in
    fork_in_use slots s c.args.parent c.args.child
    (process-is s tree c.args.processes.now refl c.known.ensures c.args.parent ∙ ap is_some (sym c.find_row.ensures ∙ ap option_copied c.in-Some.is))
    (process-is s tree c.args.processes.now refl c.known.ensures c.args.child ∙ sym c.has_row.ensures ∙ c.if-has_row.true)
