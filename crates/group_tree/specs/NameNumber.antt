-- The first eight bytes of a name as a number, which decides most comparisons of two names.
use Rattle.std.specs.Prelude.{◌≡◌, ℕ, zero, suc, ◌+◌, ◌*◌, ◌^◌, ◌<◌, [], ◌∷◌}
use Rattle.flat_model.specs.Path.{Name}

-- the first k bytes of a name as a number, the first byte highest, with zeros behind a shorter name
abbrev pub first_bytes : ℕ → Name → ℕ
first_bytes zero name = 0
first_bytes (suc k) [] = 0
first_bytes (suc k) (b ∷ name) = b * 256 ^ k + first_bytes k name

-- each of the first k bytes is less than 256
abbrev pub HasBytes : ℕ → Name → Type 0
HasBytes zero name = Unit {0}
HasBytes (suc k) [] = Unit {0}
HasBytes (suc k) (b ∷ name) = (b < 256) × HasBytes k name

-- n is the number of a name's first eight bytes
pub record IsNumberOf (name : Name) (n : ℕ) : Type 0 where
  pub value : n ≡ first_bytes 8 name
  pub bytes : HasBytes 8 name

-- two names with the same number
abbrev pub HasOneNumber : Name → Name → Type 0
HasOneNumber a b = (n : ℕ) × IsNumberOf a n × IsNumberOf b n
