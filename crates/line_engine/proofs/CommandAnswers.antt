-- What a command's answer is, by its reply.
use Rattle.std.specs.Prelude.{◌≡◌, ◌≢◌, refl, ℕ, Bool, true, false, cond, ◌&&◌, not, List, Option, None, IfSome, is_some}
use Rattle.std.proofs.Common.{sym, ◌∙◌, ap, subst}
use Rattle.std.proofs.lemmas.Bool.{false≢true}
use Rattle.std.specs.declared.alloc.Global.{Global}
use Rattle.flat_model.specs.Command as model
use Rattle.flat_model.specs.Machine.{tick}
use Rattle.flat_model.specs.Replies.{reply_bytes}
use Rattle.undo_journal.specs.declared.reply.Reply.{Reply}
use Rattle.undo_journal.specs.CommandMeaning.{reply_of}
use Rattle.undo_journal.specs.Answer.{Answers, undoes_without_memory}
use Rattle.undo_journal.specs.Headline.{KeepsHistory}
use Rattle.undo_journal.specs.Slots.{slots}
use Rattle.undo_journal.specs.Timeline.{Timeline, becomes}
use Rattle.line_engine.specs.declared.answer.Answer.{Answer}
use Rattle.line_engine.specs.declared.answer.Answer.TheVariants as answer
use Rattle.line_engine.specs.LineAnswers.{is_told, AnswersRun}
use Rattle.line_engine.specs.Ready.{AnswersReply, is_loud, is_counted_reply, ready_reply}
use Rattle.line_engine.proofs.Quiet.{quiet, loud, counted}

-- a reply that could not be told left the engine as it was, or was taken back
untold : (b : Bool) (t : Timeline) (c : model.Command) (next : Timeline) → is_counted_reply (tick slots t.machine c).1 ≡ b → is_loud (tick slots t.machine c).1 ≡ false
    → next ≡ cond (b && true) (becomes t (tick slots (tick slots t.machine c).0 model.Undo).0) (becomes t (tick slots t.machine c).0) → next ≡ t
untold true t c next is q e = e ∙ ap (becomes t) (counted t.machine c is).back
untold false t c next is q e = e ∙ ap (becomes t) (quiet t.machine c q is)

told : (b : Bool) (m n : Timeline) → cond (b && false) n m ≡ m
told true m n = refl
told false m n = refl

by_answer : (t : Timeline) (c : model.Command) (n : ℕ) (out : List ℕ) (a : Answer) (next : Timeline) → KeepsHistory slots t c (becomes t (tick slots t.machine c).0)
    → AnswersReply n (tick slots t.machine c).1 out a
    → next ≡ cond (is_counted_reply (tick slots t.machine c).1 && not (is_told a)) (becomes t (tick slots (tick slots t.machine c).0 model.Undo).0) (becomes t (tick slots t.machine c).0)
    → AnswersRun t n c out a next
by_answer t c n out answer.Skipped next k h e = h
by_answer t c n out (answer.Answered len code) next k h e =
    let same = e ∙ told (is_counted_reply (tick slots t.machine c).1) (becomes t (tick slots t.machine c).0) (becomes t (tick slots (tick slots t.machine c).0 model.Undo).0) in
    record { goes = same; answered = h.0; code_is = h.1; history = subst (KeepsHistory slots t c) (sym same) k }
by_answer t c n out (answer.TooSmall needed) next k h e = (untold (is_counted_reply (tick slots t.machine c).1) t c next refl h.0 e, h.1)
by_answer t c n out answer.OutOfMemory next k h e = untold (is_counted_reply (tick slots t.machine c).1) t c next refl h e

is_not_none : {X : Type 0} → (o : Option X) → is_some o ≡ true → o ≢ None
is_not_none o e is = false≢true (ap is_some (sym is) ∙ e)

pub certain_back : (t : Timeline) (c : model.Command) (r : Reply Global) (next : Timeline) → is_some (reply_of r) ≡ true → (reply_of r ≢ None → Answers slots t c r next)
    → IfSome (reply_of r) (λ x. is_counted_reply x ≡ true → undoes_without_memory slots next.machine.past ≡ true)
certain_back t c r next some has =
    let answers : Answers slots t c r next = has (is_not_none (reply_of r) some) in
    subst (λ (o : Option model.Reply). IfSome o (λ x. is_counted_reply x ≡ true → undoes_without_memory slots next.machine.past ≡ true)) (sym answers.reply_is)
    (λ q. subst (λ (x : Timeline). undoes_without_memory slots x.machine.past ≡ true) (sym answers.state) (counted t.machine c q).certain)

pub by_reply : (t : Timeline) (c : model.Command) (n : ℕ) (ready : List ℕ) (r : Reply Global) (out : List ℕ) (a : Answer) (mid next : Timeline)
    → ready ≡ reply_bytes n (ready_reply t.machine c) → is_some (reply_of r) ≡ true → (reply_of r ≢ None → Answers slots t c r mid) → (reply_of r ≢ None → KeepsHistory slots t c mid)
    → IfSome (reply_of r) (λ x. (is_loud x ≡ true → ready ≡ reply_bytes n x) → AnswersReply n x out a)
    → IfSome (reply_of r) (λ x. next ≡ cond (is_counted_reply x && not (is_told a)) (becomes mid (tick slots mid.machine model.Undo).0) mid)
    → AnswersRun t n c out a next
by_reply t c n ready r out a mid next is some has keeps h back =
    let answers : Answers slots t c r mid = has (is_not_none (reply_of r) some) in
    let k : KeepsHistory slots t c (becomes t (tick slots t.machine c).0) = subst (λ (x : Timeline). KeepsHistory slots t c x) answers.state (keeps (is_not_none (reply_of r) some)) in
    let g : AnswersReply n (tick slots t.machine c).1 out a =
    subst (λ (o : Option model.Reply). IfSome o (λ x. (is_loud x ≡ true → ready ≡ reply_bytes n x)
    → AnswersReply n x out a)) answers.reply_is h (λ l. is ∙ ap (reply_bytes n) (loud t.machine c l)) in
    let e = subst (λ (o : Option model.Reply). IfSome o (λ x. next ≡ cond (is_counted_reply x && not (is_told a)) (becomes mid (tick slots mid.machine model.Undo).0) mid)) answers.reply_is back in
    by_answer t c n out a next k g
    (subst (λ (x : Timeline). next ≡ cond (is_counted_reply (tick slots t.machine c).1 && not (is_told a)) (becomes x (tick slots x.machine model.Undo).0) x) answers.state e)
