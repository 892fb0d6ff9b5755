use Rattle.std.proofs.Common.{◌≡◌, Some, is_some, ap, subst, ◌∙◌}
use Rattle.flat_model.specs.Command.{Fork}
use Rattle.flat_model.specs.State.{State}
use Rattle.flat_model.specs.Step.{refusal}
use Rattle.pids_charge.specs.Answers.{refusal_along}
use Rattle.pids_charge.proofs.FlatGroups.{process-is}
use Rattle.pids_charge.proofs.charges.Charges.refuses_pids.Goals as goal

pub returns-in-Ok-clause-first : goal.returns-in-Ok-clause-first
returns-in-Ok-clause-first g c = (
  process-is c.args.self.now c.self.inside.tree c.self.inside.processes c.self.view_is c.self.invariant.recounted.ordered c.args.parent ∙ ap is_some c.in-Ok.ensures.parent,
  process-is c.args.self.now c.self.inside.tree c.self.inside.processes c.self.view_is c.self.invariant.recounted.ordered c.args.child ∙ c.in-Ok.ensures.child,
)

pub returns-in-Err-clause-first : goal.returns-in-Err-clause-first
returns-in-Err-clause-first g c = λ p.
    subst (λ (s : State). refusal g.M.Meter.SLOTS s (Fork c.args.parent c.args.child) ≡ Some (refusal_along p c.in-Err.refusal)) c.self.view_is (c.in-Err.ensures.first g.M.Meter.SLOTS c.self.inside.tree p)
