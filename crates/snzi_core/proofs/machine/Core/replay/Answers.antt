use Rattle.std.proofs.Common.{List, take, sym, subst}
use Rattle.std.proofs.lemmas.List.{take_more}
use Rattle.snzi_core.specs.declared.event.Event.{Event}
use Rattle.snzi_core.specs.Effect.{Runs}
use Rattle.snzi_core.proofs.Keeps.{runs_more, shape_trans}
use Rattle.snzi_core.proofs.machine.Core.replay.Goals as goal

pub loop-place-preserved : goal.loop-place-preserved
loop-place-preserved g c = (
  subst (λ (es : List Event). Runs c.args.self.now es c.step.new.self) (sym (take_more c.args.events.now c.loop-place.place _ c.loop-place-test.true))
      (runs_more c.args.self.now c.loop-place.self c.step.new.self (take c.loop-place.place c.args.events.now) _ c.loop-place.invariant.0 c.in_default.ensures.ok.0 c.in_default.ensures.ok.1),
  shape_trans c.args.self.now c.loop-place.self c.step.new.self c.loop-place.invariant.1 c.in_default.ensures.shape,
)
