use Rattle.std.proofs.Common.{◌∙◌, [], ap, refl}
use Rattle.flat_model.specs.Machine.{Machine}
use Rattle.undo_journal.specs.Timeline.{from_start}
use Rattle.journal_laws.proofs.HistoryLaws.{oldest_is, nothing_is, run_begins, undone_is, reached_is, starts}
use Rattle.journal_laws.proofs.histories.history_begins_where_it_began.Goals as goal

pub returns-clause-oldest : goal.returns-clause-oldest
returns-clause-oldest c = λ slots old new d e s past k is. oldest_is slots new.machine e s past is ∙ ap (λ (m : Machine). m.state) k.begins

pub returns-clause-nothing : goal.returns-clause-nothing
returns-clause-nothing c = λ slots old new d k is. nothing_is slots new.machine is ∙ k.begins

pub returns-clause-run : goal.returns-clause-run
returns-clause-run c = run_begins

pub returns-clause-all : goal.returns-clause-all
returns-clause-all c = undone_is

pub returns-clause-reached : goal.returns-clause-reached
returns-clause-reached c = reached_is

pub returns-clause-first : goal.returns-clause-first
returns-clause-first c = λ slots t d s past r is. oldest_is slots t.machine d s past is

pub returns-clause-unforgotten : goal.returns-clause-unforgotten
returns-clause-unforgotten c = λ slots m r. starts slots (from_start m) r refl

pub returns-clause-elsewhere : goal.returns-clause-elsewhere
returns-clause-elsewhere c = λ slots s other r. other (ap (λ (m : Machine). m.state) (starts slots (from_start (record { state = s; past = [] })) r refl))
