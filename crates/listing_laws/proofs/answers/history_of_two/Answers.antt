use Rattle.std.proofs.Common.{[], ◌∷◌, refl}
use Rattle.std.specs.Prelude.{codes}
use Rattle.std.specs.Fmt.{digits}
use Rattle.flat_model.specs.Command.{Exit}
use Rattle.line_engine.specs.Listings.{history_from, lines_bytes}
use Rattle.listing_laws.proofs.EngineAnswers.{listed_are, lacking_is}
use Rattle.listing_laws.proofs.answers.history_of_two.Goals as goal

pub returns-clause-all : goal.returns-clause-all
unfolding digits
returns-clause-all c = λ s t out len count. listed_are out len count 2 2 (lines_bytes (history_from ((Exit 2, s) ∷ (Exit 1, t) ∷ []) 0)) (codes "exit 1\nexit 2\n") refl refl

pub returns-clause-later : goal.returns-clause-later
unfolding digits
returns-clause-later c = λ s t out len count. listed_are out len count 1 1 (lines_bytes (history_from ((Exit 2, s) ∷ (Exit 1, t) ∷ []) 1)) (codes "exit 2\n") refl refl

pub returns-clause-beyond : goal.returns-clause-beyond
returns-clause-beyond c = λ s t out len count. listed_are out len count 0 0 (lines_bytes (history_from ((Exit 2, s) ∷ (Exit 1, t) ∷ []) 2)) [] refl refl

pub returns-clause-no_room : goal.returns-clause-no_room
unfolding digits
returns-clause-no_room c = λ s t out needed. lacking_is out needed (lines_bytes (history_from ((Exit 2, s) ∷ (Exit 1, t) ∷ []) 0)) (codes "exit 1\nexit 2\n") refl
