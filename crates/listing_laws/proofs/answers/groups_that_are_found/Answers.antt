use Rattle.flat_model.specs.PathText.{name_fault, path_fault}
use Rattle.listing_laws.proofs.EngineAnswers.{found_is, absent_is}
use Rattle.listing_laws.proofs.answers.groups_that_are_found.Goals as goal

pub returns-clause-there : goal.returns-clause-there
returns-clause-there c = found_is

pub returns-clause-absent : goal.returns-clause-absent
returns-clause-absent c = absent_is

pub returns-clause-no_path : goal.returns-clause-no_path
unfolding name_fault path_fault
returns-clause-no_path c = λ s a. (λ h. h, λ h. h)
