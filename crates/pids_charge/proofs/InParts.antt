-- A settlement leaves the same in any number of parts.
use Rattle.std.proofs.Common.{◌≡◌, ℕ, zero, suc, ◌+◌, ◌-◌, ◌/◌, ◌≤◌, List, length, arith}
use Rattle.std.proofs.lemmas.List.Sums.{sum_by-take-drop}
use Rattle.snzi_tokens.specs.declared.token.Token.{Token}
use Rattle.snzi_tokens.specs.Listed.{listed_at, one_at}
use Rattle.pids_charge.specs.Content.{Content}
use Rattle.pids_charge.specs.Parts.{but_last_run, the_last_run, in_parts}

-- the runs have the tokens of the list
pub runs_have : (n : ℕ) (ts : List Token) (s j : ℕ) → listed_at (but_last_run n ts) s j + listed_at (the_last_run n ts) s j ≡ listed_at ts s j
runs_have n ts s j = sum_by-take-drop (λ t. one_at t.slot t.leaf s j) ts (length ts - length ts / n)

parts_leave : (n : ℕ) (leaving arriving : List Token) (at : Content) (s j : ℕ) → listed_at leaving s j ≤ at s j
    → in_parts n leaving arriving at s j + listed_at leaving s j ≡ at s j + listed_at arriving s j
parts_leave zero leaving arriving at s j there = omega (arith, there)
parts_leave (suc n) leaving arriving at s j there =
    let go = runs_have (n + 2) leaving s j in
    let come = runs_have (n + 2) arriving s j in
    let before = parts_leave n (but_last_run (n + 2) leaving) (but_last_run (n + 2) arriving) at s j (omega (arith, go, there)) in
    omega (arith, go, come, before, there)

-- what one content less leaving plus arriving is, any number of parts leave
pub parts_settle : (n : ℕ) (leaving arriving : List Token) (old new : Content) → ((s j : ℕ) → listed_at leaving s j ≤ old s j)
    → ((s j : ℕ) → new s j + listed_at leaving s j ≡ old s j + listed_at arriving s j)
    → (s j : ℕ) → new s j ≡ in_parts n leaving arriving old s j
parts_settle n leaving arriving old new there settled s j =
    let parts = parts_leave n leaving arriving old s j (there s j) in
    let one = settled s j in
    omega (arith, parts, one)
