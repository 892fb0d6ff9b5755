use Rattle.std.proofs.Common.{◌≡◌, None, Some, subst}
use Rattle.flat_model.specs.Command.{Move}
use Rattle.flat_model.specs.State.{State}
use Rattle.flat_model.specs.Step.{refusal}
use Rattle.pids_charge.specs.Answers.{refusal_along}
use Rattle.pids_charge.proofs.charges.Charges.refuses_move.Goals as goal

pub returns-in-Ok-clause-first : goal.returns-in-Ok-clause-first
returns-in-Ok-clause-first g c = subst (λ (s : State). refusal g.M.Meter.SLOTS s (Move c.args.path.now c.args.pid) ≡ None) c.self.view_is c.in-Ok.ensures.allowed

pub returns-in-Err-clause-first : goal.returns-in-Err-clause-first
returns-in-Err-clause-first g c =
    subst (λ (s : State). refusal g.M.Meter.SLOTS s (Move c.args.path.now c.args.pid) ≡ Some (refusal_along c.args.path.now c.in-Err.refusal)) c.self.view_is c.in-Err.ensures.first

pub returns-in-Err-clause-kept : goal.returns-in-Err-clause-kept
returns-in-Err-clause-kept g c = c.in-Err.ensures.kept c.args.self.now
