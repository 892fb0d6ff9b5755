use Rattle.std.proofs.Common.{◌≡◌, None, Some, [], sym, ap, ◌∙◌}
use Rattle.flat_model.specs.Command.{Fork}
use Rattle.flat_model.specs.State.{State}
use Rattle.flat_model.specs.Step.{refusal}
use Rattle.pids_charge.specs.Answers.{refusal_along}
use Rattle.pids_charge.proofs.charges.Charges.fork.Goals as goal

pub unreachable-requires-in-Refused : goal.unreachable-requires-in-Refused
unreachable-requires-in-Refused g c =
    let refused = ((rw c.in-Refused.is at c.in_ok-peaks.ensures.forked).0 []).0 in
    let same = ap (λ (s : State). refusal g.M.Meter.SLOTS s (Fork c.args.parent c.args.child)) c.refuses_fork.ensures.kept in
    let both : None ≡ Some (refusal_along [] c.in-Refused.field-0) = sym c.in_default.ensures.first ∙ sym same ∙ refused in cc
