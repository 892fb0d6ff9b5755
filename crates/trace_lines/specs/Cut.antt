-- Words: the first word of a text, and how many words there are.
use Rattle.std.specs.Prelude.{ℕ, Bool, false, List, [], ◌∷◌, Option, Some, None}
use Rattle.flat_model.specs.Trace.{Word, is_blank}

abbrev pub begins_with_blank : List ℕ → Bool
begins_with_blank [] = false
begins_with_blank (b ∷ bytes) = is_blank b

-- ---- how many words there are

abbrev pub the_one : List Word → Option Word
the_one [] = None
the_one (p ∷ []) = Some p
the_one (p ∷ q ∷ rest) = None

abbrev pub the_two : List Word → Option (Word × Word)
the_two [] = None
the_two (p ∷ []) = None
the_two (p ∷ q ∷ []) = Some (p, q)
the_two (p ∷ q ∷ r ∷ rest) = None

abbrev pub the_three : List Word → Option (Word × Word × Word)
the_three [] = None
the_three (p ∷ []) = None
the_three (p ∷ q ∷ []) = None
the_three (p ∷ q ∷ r ∷ []) = Some (p, q, r)
the_three (p ∷ q ∷ r ∷ s ∷ rest) = None
