use Rattle.undo_journal.specs.CommandMeaning.{command_of}
use Rattle.sessions.proofs.TurnOrder.{turn_of}
use Rattle.sessions.proofs.turns.serve_turn.Goals as goal

pub returns-clause-ran : goal.returns-clause-ran
returns-clause-ran g c =
    turn_of c.serve_in.result c.args.turn (command_of c.args.cmd.now) c.args.sessions.now c.index-sessions-at.result c.serve_in.new.self
    c.requires.some c.serve_in.ensures.ran
