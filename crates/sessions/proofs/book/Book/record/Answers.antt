use Rattle.std.proofs.Common.{rules, ◌≡◌, ◌∙◌, sym, ap}
use Rattle.flat_model.specs.Log.{Entry}
use Rattle.flat_model.specs.Machine.{tick}
use Rattle.undo_journal.specs.CommandMeaning.{command_of}
use Rattle.undo_journal.specs.Timeline.{becomes}
use Rattle.sessions.specs.SessionMeaning.{slots, known, answer_of}
use Rattle.sessions.proofs.Legal.{longer}
use Rattle.sessions.proofs.book.Book.record.Goals as goal

pub invariant_of-self-2 : goal.invariant_of-self-2
invariant_of-self-2 g c =
    let e : Entry = record { session = c.args.session; command = command_of c.in_ok-logged.logged; reply = answer_of c.in_ok-first.first } in
    let a = c.in_ok-first.ensures.ok in
    let same : command_of c.in_ok-logged.logged ≡ command_of c.args.cmd.now = c.in_ok-logged.ensures in
    let goes : c.answer_twice.new.engine ≡ becomes c.args.self.now.engine (tick slots c.args.self.now.engine.machine e.command).0 =
    a.state ∙ ap (λ x. becomes c.args.self.now.engine (tick slots c.args.self.now.engine.machine x).0) (sym same) in
    let answered : e.reply ≡ (tick slots c.args.self.now.engine.machine e.command).1 = ap known a.reply_is ∙ ap (λ x. (tick slots c.args.self.now.engine.machine x).1) (sym same) in
    let both = longer slots c.args.self.now.log.items c.push_reserved.new.self.items c.args.self.now.engine c.answer_twice.new.engine e
    (search rules) c.args.self.now.legal c.args.self.now.at_end goes answered in
    record { legal = both.legal; at_end = both.at_end }
