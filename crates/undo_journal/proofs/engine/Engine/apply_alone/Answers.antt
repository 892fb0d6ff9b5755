use Rattle.undo_journal.specs.CommandMeaning.{command_of}
use Rattle.undo_journal.proofs.MachineSteps.{keeps_history}
use Rattle.undo_journal.proofs.engine.Engine.apply_alone.Goals as goal

pub returns-clause-headline : goal.returns-clause-headline
returns-clause-headline g c = λ h. keeps_history g.M.Meter.SLOTS c.args.self.now (command_of c.args.cmd.now) c.answer-reply.new.self (c.answer-reply.ensures.answered h).state c.known.ensures
