use Rattle.std.proofs.Common.{◌≡◌, ◌+◌, ◌<◌, map, take, length}
use Rattle.undo_journal.specs.CommandMeaning.{command_of}
use Rattle.sessions.specs.Served.{IsEarly}
use Rattle.sessions.specs.Turns.{TakeTurns}
use Rattle.sessions.proofs.turns.serve_turns.Given as goal

abbrev pub invariant-loop-cmd : goal.invariant-loop-cmd
invariant-loop-cmd g l = record {
  turn : l.next ≡ l.turn + l.cmd-index;
  come : IsEarly l.state l.next → ⊥;
  some : 0 < length l.sessions;
  turns : TakeTurns l.turn (map command_of (take l.cmd-index l.cmds)) l.fn.sessions l.sessions;
}
