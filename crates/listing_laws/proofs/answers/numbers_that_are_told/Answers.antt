use Rattle.flat_model.specs.PathText.{path_fault}
use Rattle.listing_laws.proofs.EngineAnswers.{told_is, untold_is, root_is}
use Rattle.listing_laws.proofs.answers.numbers_that_are_told.Goals as goal

pub returns-clause-told : goal.returns-clause-told
returns-clause-told c = told_is

pub returns-clause-absent : goal.returns-clause-absent
returns-clause-absent c = untold_is

pub returns-clause-root : goal.returns-clause-root
unfolding path_fault
returns-clause-root c = root_is

pub returns-clause-no_path : goal.returns-clause-no_path
returns-clause-no_path c = λ s of f a. (λ h. h, λ h. h)
