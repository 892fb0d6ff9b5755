use Rattle.std.proofs.Common.{sym}
use Rattle.snzi_core.proofs.Keeps.{step_core, step_shape}
use Rattle.snzi_core.proofs.machine.Core.step.Goals as goal

pub returns-in-None-clause-rule : goal.returns-in-None-clause-rule
returns-in-None-clause-rule g c = (
  c.in-None.ensures.core.rule,
  (step_core c.args.self.now c.apply.new.self c.args.event.now c.apply.result c.in-None.ensures.core (sym c.in-None.ensures.value)
      c.apply.ensures.ok c.apply.ensures.err).rule,
)

pub returns-in-None-clause-shape : goal.returns-in-None-clause-shape
returns-in-None-clause-shape g c = step_shape c.args.self.now c.apply.new.self c.args.event.now c.apply.result c.apply.ensures.ok c.apply.ensures.err
