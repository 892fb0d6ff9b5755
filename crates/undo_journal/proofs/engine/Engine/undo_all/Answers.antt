use Rattle.std.proofs.Common.{ap, ◌∙◌, arith}
use Rattle.flat_model.specs.Command as model
use Rattle.flat_model.specs.Machine.{tick}
use Rattle.undo_journal.specs.Timeline.{Timeline, becomes}
use Rattle.undo_journal.proofs.UndoSeries.{undos_next}
use Rattle.undo_journal.proofs.engine.Engine.undo_all.Goals as goal

pub loop-undone-preserved : goal.loop-undone-preserved
loop-undone-preserved g c = record {
  bound = omega arith;
  undone = c.in_default.ensures.ok
      ∙ ap (λ (t : Timeline). becomes t (tick g.M.Meter.SLOTS t.machine model.Undo).0) c.loop-undone.invariant.undone
      ∙ ap (becomes c.args.self.now) (undos_next g.M.Meter.SLOTS c.args.self.now.machine c.loop-undone.undone);
}
