-- The caps on a hand and on main.
use Rattle.std.specs.Prelude.{ℕ, ◌^◌}

-- the most tokens of one hand at one node
abbrev pub token_cap : ℕ
token_cap = 2 ^ 40

-- the most helpers that may be out at once
abbrev pub helper_cap : ℕ
helper_cap = 65535
