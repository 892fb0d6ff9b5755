-- Tokens in a list, one after another.
use Rattle.std.proofs.Common.{◌≡◌, ℕ, ◌+◌, ◌<◌, ◌≤◌, List, length, get_or, take, refl, arith}
use Rattle.std.proofs.lemmas.Bool.{eq-eqb}
use Rattle.std.proofs.lemmas.List.Sums.{sum_by_more_le}
use Rattle.snzi_tokens.specs.Listed.{listed_at, one_at}
use Rattle.pids_charge.specs.Content.{Content}
use Rattle.snzi_tokens.specs.declared.token.Token.{Token}

one_at-here : (s j : ℕ) → one_at s j s j ≡ 1
one_at-here s j = rw (eq-eqb s s refl, eq-eqb j j refl) refl

-- while the tokens before an index are gone, the one at the index is there
pub still_charged : (before now : Content) (ts : List Token) (i : ℕ) (d : Token) → i < length ts
    → ((s j : ℕ) → now s j + listed_at (take i ts) s j ≡ before s j) → ((s j : ℕ) → listed_at ts s j ≤ before s j)
    → 0 < now (get_or ts i d).slot (get_or ts i d).leaf
still_charged before now ts i d h gone there =
    let t : Token = get_or ts i d in
    omega (arith, gone t.slot t.leaf, there t.slot t.leaf, one_at-here t.slot t.leaf, sum_by_more_le (λ x. one_at x.slot x.leaf t.slot t.leaf) ts i d h)
