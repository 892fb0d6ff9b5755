use Rattle.std.proofs.Common.{refl}
use Rattle.flat_model.specs.PathText.{name_fault, path_fault}
use Rattle.listing_laws.proofs.faults.places_of_faults.Goals as goal

pub returns-clause-long_text : goal.returns-clause-long_text
unfolding name_fault path_fault
returns-clause-long_text c = refl

pub returns-clause-many_names : goal.returns-clause-many_names
unfolding name_fault path_fault
returns-clause-many_names c = refl

pub returns-clause-long_name : goal.returns-clause-long_name
unfolding name_fault path_fault
returns-clause-long_name c = refl
