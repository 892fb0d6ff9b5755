-- A settlement in parts: each list of tokens is cut into as many runs, and a part does one run of each.
use Rattle.std.specs.Prelude.{ℕ, zero, suc, ◌+◌, ◌-◌, ◌/◌, min, max, List, length, take, drop}
use Rattle.snzi_tokens.specs.declared.token.Token.{Token}
use Rattle.snzi_tokens.specs.Listed.{listed_at}
use Rattle.pids_charge.specs.Content.{Content}

-- how many parts settle so many tokens
abbrev pub parts_for : ℕ → ℕ
parts_for tokens = max 2 (min 8 tokens)

-- n runs whose lengths differ by at most one, the longer first: all but the last run, and the last run
abbrev pub but_last_run : ℕ → List Token → List Token
but_last_run n ts = take (length ts - length ts / n) ts

abbrev pub the_last_run : ℕ → List Token → List Token
the_last_run n ts = drop (length ts - length ts / n) ts

-- the leaving tokens are removed and the arriving ones added
abbrev pub in_one_part : List Token → List Token → Content → Content
in_one_part leaving arriving at s j = at s j - listed_at leaving s j + listed_at arriving s j

-- the same in one part more than there are helpers, each part after those before it
abbrev pub in_parts : ℕ → List Token → List Token → Content → Content
in_parts zero leaving arriving at = in_one_part leaving arriving at
in_parts (suc n) leaving arriving at =
    in_one_part (the_last_run (n + 2) leaving) (the_last_run (n + 2) arriving)
    (in_parts n (but_last_run (n + 2) leaving) (but_last_run (n + 2) arriving) at)
