use Rattle.std.proofs.Common.{refl, ap, ◌∙◌}
use Rattle.std.specs.Prelude.{codes}
use Rattle.std.specs.Fmt.{digits}
use Rattle.flat_model.specs.Command.{NothingToUndo, Undo}
use Rattle.flat_model.specs.Machine.{tick}
use Rattle.flat_model.specs.PathText.{name_fault, path_fault}
use Rattle.flat_model.specs.Trace.{BadDirection, command_of_words}
use Rattle.undo_journal.specs.Slots.{slots}
use Rattle.undo_journal.specs.Timeline.{Timeline}
use Rattle.c_library.specs.Status.{status_of}
use Rattle.c_library.proofs.StatusLaws.{held_is, in_handle, fault_by_two, fault_by_three, run_by_one}
use Rattle.c_library.proofs.laws.answers_by_status.Goals as goal

pub returns-clause-closed : goal.returns-clause-closed
returns-clause-closed c = λ n status line out info new h. (h.0, h.2)

pub returns-clause-held : goal.returns-clause-held
returns-clause-held c = held_is

pub returns-clause-comment : goal.returns-clause-comment
unfolding command_of_words
returns-clause-comment c = λ e n status out info new h.
    (h.status_is ∙ ap status_of h.answers.1, h.new_is ∙ ap in_handle h.answers.0)

pub returns-clause-fault : goal.returns-clause-fault
unfolding digits command_of_words path_fault name_fault
returns-clause-fault c = λ e out info new h. fault_by_two 7 BadDirection out (codes "7 refused direction\n") h.answer info refl h.answers.1 h.status_is h.info_is

pub returns-clause-no_room : goal.returns-clause-no_room
unfolding digits command_of_words path_fault name_fault
returns-clause-no_room c = λ e out info new h. fault_by_three 7 BadDirection out (codes "7 refused direction\n") h.answer info refl h.answers.1 h.status_is h.info_is

pub returns-clause-refused : goal.returns-clause-refused
unfolding digits command_of_words
returns-clause-refused c = λ e out info new start h.
    run_by_one e.engine h.engine.engine 1 Undo NothingToUndo out (codes "1 refused nothing\n") h.answer info
    (ap (λ (t : Timeline). (tick slots t.machine Undo).1) start) refl h.answers h.status_is h.info_is
