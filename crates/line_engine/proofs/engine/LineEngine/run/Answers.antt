use Rattle.std.proofs.Common.{◌∙◌, sym, ap, subst, rules}
use Rattle.flat_model.specs.Replies.{reply_bytes}
use Rattle.undo_journal.specs.CommandMeaning.{command_of}
use Rattle.undo_journal.specs.Timeline.{Timeline}
use Rattle.line_engine.specs.LineAnswers.{AnswersRun}
use Rattle.line_engine.specs.Ready.{ready_reply}
use Rattle.line_engine.proofs.CommandAnswers.{by_reply, certain_back}
use Rattle.line_engine.proofs.engine.LineEngine.run.Goals as goal

pub take_untold_back-requires : goal.take_untold_back-requires
take_untold_back-requires c =
    certain_back c.lacks_room.new.self.engine (command_of c.args.command.now) c.apply_alone-reply.result c.apply_alone-reply.new.self (search rules) c.apply_alone-reply.ensures.answered

pub returns : goal.returns
returns c =
    let kept = c.lacks_room.ensures.kept in
    let ready = c.as_slice.ensures.value ∙ c.in-Ok.ensures ∙ ap (λ (t : Timeline). reply_bytes c.args.number (ready_reply t.machine (command_of c.args.command.now))) (sym kept) in
    subst (λ (t : Timeline). AnswersRun t c.args.number (command_of c.args.command.now) c.answer_reply-answer.new.out c.answer_reply-answer.result c.take_untold_back.new.self.engine) kept
    (by_reply c.lacks_room.new.self.engine (command_of c.args.command.now) c.args.number c.as_slice.result.now c.apply_alone-reply.result
    c.answer_reply-answer.new.out c.answer_reply-answer.result c.apply_alone-reply.new.self c.take_untold_back.new.self.engine
    ready (search rules) c.apply_alone-reply.ensures.answered c.apply_alone-reply.ensures.headline c.answer_reply-answer.ensures c.take_untold_back.ensures)
