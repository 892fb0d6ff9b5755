-- The pieces of a text between its line feeds, without an empty one at the end.
use Rattle.std.proofs.Common.{◌≡◌, ℕ, Bool, true, false, cond, List, [], ◌∷◌, ◌++◌, refl, ap}
use Rattle.std.specs.List.{slice_split, onto_first}
use Rattle.flat_model.specs.Trace.{is_line_feed, without_empty_end}

pub without_empty_end-push : (ts : List (List ℕ)) → without_empty_end (ts ++ [] ∷ []) ≡ ts
without_empty_end-push [] = refl
without_empty_end-push (t ∷ []) = refl
without_empty_end-push (t ∷ u ∷ ts) = ap (λ (us : List (List ℕ)). t ∷ us) (without_empty_end-push (u ∷ ts))

-- the pieces of a text are never none, so a piece before them is not the last
kept_by : (x : List ℕ) (b : Bool) (y : ℕ) (parts : List (List ℕ)) (first : List ℕ)
    → without_empty_end (x ∷ cond b (first ∷ parts) (onto_first y parts))
    ≡ x ∷ without_empty_end (cond b (first ∷ parts) (onto_first y parts))
kept_by x true y parts first = refl
kept_by x false y [] first = refl
kept_by x false y (part ∷ parts) first = refl

pub without_empty_end-cons : (x bytes : List ℕ) → without_empty_end (x ∷ slice_split is_line_feed bytes) ≡ x ∷ without_empty_end (slice_split is_line_feed bytes)
without_empty_end-cons x [] = refl
without_empty_end-cons x (b ∷ bytes) = kept_by x (is_line_feed b) b (slice_split is_line_feed bytes) []
