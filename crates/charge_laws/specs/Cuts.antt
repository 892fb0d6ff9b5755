-- A list cut into n runs, as the parts of a settlement take them.
use Rattle.std.specs.Prelude.{ℕ, zero, suc, ◌+◌, ◌≤◌, List, [], ◌∷◌, ◌++◌, length}
use Rattle.std.specs.List.{AllByRecursion}
use Rattle.snzi_tokens.specs.declared.token.Token.{Token}
use Rattle.pids_charge.specs.Parts.{but_last_run, the_last_run}

-- the runs, the last one first
abbrev pub runs : ℕ → List Token → List (List Token)
runs zero ts = []
runs (suc n) ts = the_last_run (suc n) ts ∷ runs n (but_last_run (suc n) ts)

-- the runs one after the other
abbrev pub joined : List (List Token) → List Token
joined [] = []
joined (last ∷ before) = joined before ++ last

-- a run before the last one is as long as it, or longer by one
abbrev pub IsBefore : List Token → List Token → Type 0
IsBefore last run = (length last ≤ length run) × (length run ≤ length last + 1)

-- lengths differ by at most one, the longer runs first
abbrev pub AreEven : List (List Token) → Type 0
AreEven [] = Unit {0}
AreEven (last ∷ before) = AllByRecursion (IsBefore last) before × AreEven before

abbrev pub token : ℕ → Token
token leaf = record { slot = 0; leaf = leaf }

-- eight tokens
abbrev pub eight : List Token
eight = token 0 ∷ token 1 ∷ token 2 ∷ token 3 ∷ token 4 ∷ token 5 ∷ token 6 ∷ token 7 ∷ []
