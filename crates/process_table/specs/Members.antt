-- The pids of each row.
use Rattle.std.specs.Prelude.{ℕ, ◌+◌, ◌<◌, ◌≤◌, ◌≡◌, ◌≢◌, List, [], ◌∷◌, Option, Some, None, length, slice_index}
use Rattle.std.specs.List.{slice_index_or}
use Rattle.std.specs.List.Sorted.{IsPermutation}

-- the pids of a row
abbrev pub list_at : List (List ℕ) → ℕ → List ℕ
list_at lists s = slice_index_or lists s []

-- q is at this index
pub record IsAt (pids : List ℕ) (place q : ℕ) : Type 0 where
  pub within : place < length pids
  pub here : slice_index pids place ≡ q

-- what is read at this index
abbrev pub IsRead : List ℕ → ℕ → Option ℕ → Type 0
IsRead pids place None = length pids ≤ place
IsRead pids place (Some q) = IsAt pids place q

-- the pid at this index has left; the last one, if it was another, has moved to that index
pub record HasLeft (old : List ℕ) (place : ℕ) (moved : Option ℕ) (new : List ℕ) : Type 0 where
  pub fewer : length new + 1 ≡ length old
  pub others : IsPermutation old (slice_index old place ∷ new)
  pub stay : (k : ℕ) → k ≢ place → k < length new → slice_index new k ≡ slice_index old k
  pub last : place < length new → slice_index new place ≡ slice_index old (length new)
  pub comes : IsRead new place moved
