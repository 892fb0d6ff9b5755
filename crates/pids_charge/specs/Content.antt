-- The content of a meter: a number for each slot and leaf.
use Rattle.std.specs.Prelude.{◌≡◌, ℕ}

-- a number for each slot and leaf
abbrev pub Content : Type 0
Content = ℕ → ℕ → ℕ

-- nothing is charged
pub record IsEmpty (content : Content) (held : ℕ) : Type 0 where
  pub nothing : (s j : ℕ) → content s j ≡ 0
  pub none : held ≡ 0
