-- What a caller's buffer holds, and when it is too small.
use Rattle.std.specs.Prelude.{◌≡◌, ℕ, ◌<◌, List, length, take}

-- the first len bytes of the buffer are these bytes, no more and no fewer
abbrev pub Holds : List ℕ → ℕ → List ℕ → Type 0
Holds out len bytes = (len ≡ length bytes) × (take len out ≡ bytes)

-- there are this many bytes, and the buffer is shorter
abbrev pub LacksRoom : List ℕ → ℕ → List ℕ → Type 0
LacksRoom out needed bytes = (needed ≡ length bytes) × (length out < needed)
