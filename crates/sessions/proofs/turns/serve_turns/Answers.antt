use Rattle.std.proofs.Common.{◌≡◌, ◌+◌, ◌∙◌, ap, arith}
use Rattle.undo_journal.specs.CommandMeaning.{command_of}
use Rattle.sessions.proofs.TurnOrder.{still_some, turns_before, turns_to}
use Rattle.sessions.proofs.turns.serve_turns.Goals as goal

pub returns-in_err-next-clause-ran : goal.returns-in_err-next-clause-ran
returns-in_err-next-clause-ran g c =
    let now = c.loop-cmd in
    turns_before c.from_residual.result _ command_of c.args.cmds.now now.cmd-index c.cmd-item.result c.args.turn c.args.sessions.now now.sessions c.serve_turn.new.sessions
    c.from_residual.ensures.0 (omega (arith, c.loop-cmd-test.true)) c.cmd-item.is now.invariant.turns c.in_err-next.ensures.ran

pub loop-cmd-preserved : goal.loop-cmd-preserved
loop-cmd-preserved g c =
    let now = c.loop-cmd in
    let ran = c.in_ok-next.ensures.ran in
    record {
      turn = (let here = now.invariant.turn in let next = c.in_ok-next.ensures.next.0 in omega (arith, here, next));
      come = c.in_ok-next.ensures.next.1;
      some = still_some now.next (command_of c.cmd-item.result) now.sessions c.serve_turn.new.sessions ran now.invariant.some;
      turns = turns_to command_of c.args.cmds.now now.cmd-index c.cmd-item.result c.args.turn now.next c.args.sessions.now now.sessions c.serve_turn.new.sessions
          (omega (arith, c.loop-cmd-test.true)) c.cmd-item.is now.invariant.turn now.invariant.turns ran;
    }
