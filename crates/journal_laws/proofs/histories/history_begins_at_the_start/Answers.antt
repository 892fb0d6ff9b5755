use Rattle.std.proofs.Common.{◌∙◌, ap}
use Rattle.flat_model.specs.Machine.{Machine, new_machine}
use Rattle.undo_journal.specs.Timeline.{Timeline, from_start}
use Rattle.journal_laws.proofs.HistoryLaws.{oldest_is, nothing_is, run_begins, each_begins, undone_is, kept_starts}
use Rattle.journal_laws.proofs.histories.history_begins_at_the_start.Goals as goal

pub returns-clause-kept : goal.returns-clause-kept
returns-clause-kept c = λ slots old new d k is. k.begins ∙ is

pub returns-clause-unforgotten : goal.returns-clause-unforgotten
returns-clause-unforgotten c = λ slots old new d k. k.forgotten

pub returns-clause-start : goal.returns-clause-start
returns-clause-start c = λ slots old new d k z. (kept_starts slots old new d k z, k.from_the_start z)

pub returns-clause-undone : goal.returns-clause-undone
returns-clause-undone c = λ slots old new d k is. k.all_undone ∙ is

pub returns-clause-oldest : goal.returns-clause-oldest
returns-clause-oldest c = λ slots old new d e s past k first is. oldest_is slots new.machine e s past is ∙ ap (λ (m : Machine). m.state) (k.begins ∙ first)

pub returns-clause-nothing : goal.returns-clause-nothing
returns-clause-nothing c = λ slots old new d k first is. nothing_is slots new.machine is ∙ k.begins ∙ first

pub returns-clause-run : goal.returns-clause-run
returns-clause-run c = λ slots steps last h. let is = each_begins slots (from_start new_machine) steps last h in (is.0, is.1, undone_is slots last.machine ∙ is.1)

pub returns-clause-reached : goal.returns-clause-reached
returns-clause-reached c = λ slots cs. run_begins slots new_machine cs

pub returns-clause-all : goal.returns-clause-all
returns-clause-all c = λ slots n old new first h. ap (λ (t : Timeline). t.machine) h.1 ∙ first
