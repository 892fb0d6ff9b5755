use Rattle.std.proofs.Common.{◌∙◌, ap, refl, arith}
use Rattle.undo_journal.specs.Timeline.{Timeline}
use Rattle.journal_laws.proofs.HistoryLaws.{undos_drop, state_undone}
use Rattle.journal_laws.proofs.histories.everything_undone.Goals as goal

pub returns-clause-all : goal.returns-clause-all
returns-clause-all c = λ slots n old new. (
  λ h. (h.0, ap (λ (t : Timeline). t.machine.state) h.1, ap (λ (t : Timeline). t.machine.past) h.1, ap (λ (t : Timeline). t.forgotten) h.1, h.2),
  λ x. (x.0, λ k. record { machine = record { state = x.1 k; past = x.2 k }; forgotten = x.3 k }, x.4),
)

pub returns-clause-elsewhere : goal.returns-clause-elsewhere
returns-clause-elsewhere c = λ slots n old new z other h. other (h.2 z)

pub returns-clause-rest : goal.returns-clause-rest
returns-clause-rest c = λ slots n e old new h.
    ap (λ (t : Timeline). t.machine.past) h.1 ∙ undos_drop slots n old.machine.state old.machine.past (let l = h.0 in omega (arith, l))

pub returns-clause-kept : goal.returns-clause-kept
returns-clause-kept c = λ slots n e old new h. ap (λ (t : Timeline). t.forgotten) h.1

pub returns-clause-none : goal.returns-clause-none
returns-clause-none c = λ slots e old new h. h.1

pub returns-clause-state : goal.returns-clause-state
returns-clause-state c = λ slots e old new d s before past is h. state_undone slots old.machine new.machine d s before past is (ap (λ (t : Timeline). t.machine) h.1)

pub returns-clause-any : goal.returns-clause-any
returns-clause-any c = λ slots n e old l. (l, refl)
