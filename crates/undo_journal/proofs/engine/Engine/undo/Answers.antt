use Rattle.flat_model.specs.Command as model
use Rattle.undo_journal.proofs.MachineSteps.{keeps_history, answered_by, certain_by}
use Rattle.undo_journal.proofs.engine.Engine.undo.Goals as goal

pub returns-clause-headline : goal.returns-clause-headline
returns-clause-headline g c = λ h.
    keeps_history g.M.Meter.SLOTS c.args.self.now model.Undo c.take_newest_back.new.self
    (answered_by g.M.Meter.SLOTS c.args.self.now c.take_newest_back.new.self model.Undo c.take_newest_back.result
    c.or_out_of_memory-reply.result c.or_out_of_memory-reply.ensures.ok c.or_out_of_memory-reply.ensures.err
    c.take_newest_back.ensures.ok h).state c.known.ensures

pub returns-clause-certain : goal.returns-clause-certain
returns-clause-certain g c = λ u.
    certain_by g.M.Meter.SLOTS c.args.self.now c.take_newest_back.new.self model.Undo c.take_newest_back.result
    c.or_out_of_memory-reply.result c.or_out_of_memory-reply.ensures.ok c.take_newest_back.ensures.ok
    (c.take_newest_back.ensures.certain u)
