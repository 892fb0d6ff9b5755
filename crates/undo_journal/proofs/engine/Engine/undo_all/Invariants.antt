use Rattle.std.proofs.Common.{◌≡◌, ◌≤◌}
use Rattle.flat_model.specs.Machine.{end_of, undos}
use Rattle.undo_journal.specs.Timeline.{becomes}
use Rattle.undo_journal.proofs.engine.Engine.undo_all.Given as goal

abbrev pub invariant-loop-undone : goal.invariant-loop-undone
invariant-loop-undone g l = record {
  bound : l.undone ≤ l.depth;
  undone : l.self ≡ becomes l.fn.self (end_of g.M.Meter.SLOTS l.fn.self.machine (undos l.undone));
}
