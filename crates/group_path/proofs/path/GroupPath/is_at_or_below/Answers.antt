use Rattle.std.proofs.Common.{true, false, sym, ◌∙◌}
use Rattle.group_path.proofs.NameWalk.{at_or_below_step}
use Rattle.group_path.proofs.path.GroupPath.is_at_or_below.Goals as goal

pub loop-theirs-preserved : goal.loop-theirs-preserved
loop-theirs-preserved g c =
    (tt, tt, c.loop-theirs.invariant.2 ∙ at_or_below_step _ _ _ _ _ _ true c.in-Some-next.ensures.steps c.in-Some.ensures.steps c.if-eq.ensures)

pub returns-in_default : goal.returns-in_default
returns-in_default g c =
    sym (c.loop-theirs.invariant.2 ∙ at_or_below_step _ _ _ _ _ _ false c.in-Some-next.ensures.steps c.in-Some.ensures.steps c.if-eq.ensures)
