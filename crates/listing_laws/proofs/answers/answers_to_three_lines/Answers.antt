use Rattle.std.proofs.Common.{refl}
use Rattle.std.specs.Prelude.{codes}
use Rattle.std.specs.Fmt.{digits}
use Rattle.flat_model.specs.PathText.{path_fault, name_fault}
use Rattle.flat_model.specs.Replies.{fault_bytes}
use Rattle.flat_model.specs.Trace.{BadDirection, command_of_words}
use Rattle.listing_laws.proofs.EngineAnswers.{lacking_is}
use Rattle.listing_laws.proofs.answers.answers_to_three_lines.Goals as goal

pub returns-clause-comment : goal.returns-clause-comment
unfolding command_of_words
returns-clause-comment c = λ t u n out a. (λ h. h, λ h. h)

pub returns-clause-fault : goal.returns-clause-fault
unfolding digits command_of_words path_fault name_fault
returns-clause-fault c = λ t u len code out. (λ h. (h.0, h.1.0.0, h.1.0.1, h.1.1), λ h. (h.0, ((h.1, h.2), h.3)))

pub returns-clause-no_room : goal.returns-clause-no_room
unfolding digits command_of_words path_fault name_fault
returns-clause-no_room c = λ t u needed out.
    let is = lacking_is out needed (fault_bytes 7 BadDirection) (codes "7 refused direction\n") refl in
    (λ h. let x = is.0 h.1 in (h.0, x.0, x.1), λ h. (h.0, is.1 (h.1, h.2)))

pub returns-clause-undo : goal.returns-clause-undo
unfolding digits command_of_words
returns-clause-undo c = λ u len code out h. (h.goes, h.answered.0, h.answered.1, h.code_is)
