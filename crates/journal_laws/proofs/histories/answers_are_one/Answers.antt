use Rattle.std.proofs.Common.{◌∙◌, ap, sym}
use Rattle.undo_journal.specs.Timeline.{Timeline}
use Rattle.journal_laws.proofs.histories.answers_are_one.Goals as goal

pub returns-clause-exactly : goal.returns-clause-exactly
returns-clause-exactly c = λ slots old new d r. (
  λ a. (ap (λ (t : Timeline). t.machine) a.state, ap (λ (t : Timeline). t.forgotten) a.state, a.reply_is),
  λ x. record { state = λ k. record { machine = x.0 k; forgotten = x.1 k }; reply_is = x.2 },
)

pub returns-clause-one : goal.returns-clause-one
returns-clause-one c = λ slots old new again d r q a b. (a.reply_is ∙ sym b.reply_is, a.state ∙ sym b.state)
