use Rattle.flat_model.specs.PathText.{path_fault}
use Rattle.listing_laws.proofs.EngineAnswers.{no_children, no_subtree}
use Rattle.listing_laws.proofs.answers.lists_of_no_group.Goals as goal

pub returns-clause-children : goal.returns-clause-children
returns-clause-children c = no_children

pub returns-clause-subtree : goal.returns-clause-subtree
returns-clause-subtree c = no_subtree

pub returns-clause-no_path_of_children : goal.returns-clause-no_path_of_children
unfolding path_fault
returns-clause-no_path_of_children c = λ s out a. (λ h. h, λ h. h)

pub returns-clause-no_path_of_subtree : goal.returns-clause-no_path_of_subtree
unfolding path_fault
returns-clause-no_path_of_subtree c = λ s out a. (λ h. h, λ h. h)

pub returns-clause-all : goal.returns-clause-all
returns-clause-all c = λ s out. (λ h. h, λ h. h)
