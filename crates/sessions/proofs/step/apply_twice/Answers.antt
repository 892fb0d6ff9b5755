use Rattle.std.proofs.Common.{arith, ◌≡◌, ◌≢◌, ◌<◌, ◌≤◌, ◌∙◌, None, length, ap}
use Rattle.undo_journal.specs.CommandMeaning.{command_of, reply_of}
use Rattle.undo_journal.specs.Timeline.{Timeline}
use Rattle.sessions.specs.SessionMeaning.{slots}
use Rattle.sessions.proofs.CommandUndo.{left, answered, certain_at}
use Rattle.sessions.proofs.step.apply_twice.Goals.{then-depth, else-depth}
use Rattle.sessions.proofs.step.apply_twice.Goals as goal

pub undo_newest-requires-after_bounds : goal.undo_newest-requires-after_bounds
undo_newest-requires-after_bounds g c κs live =
    let old : Timeline = c.args.engine.now in
    let new : Timeline = c.apply-reply.new.self in
    let e = c.apply-reply.ensures in
    let more : length old.machine.past < length new.machine.past = omega (arith, c.depth-depth.ensures, c.depth.ensures, c.if-depth.true) in
    let some : reply_of c.apply-reply.result ≢ None = answered old new (reply_of c.apply-reply.result) e.refused more in
    certain_at slots old new (command_of c.args.cmd.now) (reply_of c.apply-reply.result) c.requires (e.answered some).state (e.answered some).reply_is c.in-Err.ensures.other more

pub returns-after-depth-clause-err : goal.returns-after-depth-clause-err
returns-after-depth-clause-err g c =
    let old : Timeline = c.args.engine.now in
    let new : Timeline = c.apply-reply.new.self in
    let e = c.apply-reply.ensures in
    elim c.if-depth.branch as (λ _. c.if-depth.engine ≡ old) [
      | then-depth w ↦
          let more : length old.machine.past < length new.machine.past = omega (arith, c.depth-depth.ensures, c.depth.ensures, w.if-depth.true) in
          let some : reply_of c.apply-reply.result ≢ None = answered old new (reply_of c.apply-reply.result) e.refused more in
          let kept = e.headline some in
          w.engine-is ∙ w.undo_newest.ensures ∙ (λ k. record { machine = (kept.command_undone more k).0; forgotten = kept.forgotten k })
      | else-depth w ↦
          let no_more : length new.machine.past ≤ length old.machine.past = omega (arith, c.depth-depth.ensures, c.depth.ensures, w.if-depth.false) in
          w.engine-is ∙ left slots old new (command_of c.args.cmd.now) (reply_of c.apply-reply.result) c.requires e.refused (λ some. (e.answered some).state) no_more
    ]
