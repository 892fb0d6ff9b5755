use Rattle.std.proofs.Common.{[], ◌∷◌, refl, ap}
use Rattle.std.specs.Prelude.{codes}
use Rattle.flat_model.specs.PathText.{path_fault, name_fault}
use Rattle.line_engine.specs.Listings.{all_groups, paths_bytes}
use Rattle.listing_laws.proofs.EngineAnswers.{children_listed, groups_listed, lacking_is, subtree_listed}
use Rattle.listing_laws.proofs.answers.lists_of_four_groups.Goals as goal

pub returns-clause-children : goal.returns-clause-children
unfolding path_fault name_fault
returns-clause-children c = λ s out len count g e.
    children_listed s [] out len count ((codes "a" ∷ []) ∷ (codes "c" ∷ []) ∷ []) (97 ∷ 0 ∷ 99 ∷ 0 ∷ []) refl g e

pub returns-clause-groups : goal.returns-clause-groups
returns-clause-groups c = λ s out len count e.
    groups_listed s out len count ([] ∷ (codes "a" ∷ []) ∷ (codes "a" ∷ codes "b" ∷ []) ∷ (codes "c" ∷ []) ∷ [])
    (47 ∷ 0 ∷ 47 ∷ 97 ∷ 0 ∷ 47 ∷ 97 ∷ 47 ∷ 98 ∷ 0 ∷ 47 ∷ 99 ∷ 0 ∷ []) refl e

pub returns-clause-subtree : goal.returns-clause-subtree
unfolding path_fault name_fault
returns-clause-subtree c = λ s out len count g e.
    subtree_listed s (codes "a" ∷ []) out len count ((codes "a" ∷ []) ∷ (codes "a" ∷ codes "b" ∷ []) ∷ [])
    (47 ∷ 97 ∷ 0 ∷ 47 ∷ 97 ∷ 47 ∷ 98 ∷ 0 ∷ []) refl g e

pub returns-clause-no_room : goal.returns-clause-no_room
returns-clause-no_room c = λ s out needed e.
    lacking_is out needed (paths_bytes (all_groups s)) (47 ∷ 0 ∷ 47 ∷ 97 ∷ 0 ∷ 47 ∷ 97 ∷ 47 ∷ 98 ∷ 0 ∷ 47 ∷ 99 ∷ 0 ∷ []) (ap paths_bytes e)
