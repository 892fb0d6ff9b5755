-- Whose turn it is.
use Rattle.std.specs.Prelude.{◌≡◌, ℕ, ◌+◌, ◌<◌, ◌%◌, List, length, map, slice_index}
use Rattle.flat_model.specs.Log.{Entry}

-- the i-th of these entries is of session (turn + i) mod the number of workers
abbrev pub TakesTurns : ℕ → ℕ → List Entry → Type 0
TakesTurns workers turn entries = (at : ℕ) → at < length entries → slice_index (map (λ (e : Entry). e.session) entries) at ≡ (turn + at) % workers
