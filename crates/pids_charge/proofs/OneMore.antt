-- One charge, and one token more in a list.
use Rattle.std.proofs.Common.{◌≡◌, ℕ, ◌+◌, List, [], ◌∷◌, ◌++◌, refl, ap, ◌∙◌, arith}
use Rattle.std.proofs.lemmas.Bool.{eq-eqb}
use Rattle.std.proofs.lemmas.List.Sums.{sum_by-append}
use Rattle.snzi_tokens.specs.declared.token.Token.{Token}
use Rattle.snzi_tokens.specs.Listed.{listed_at, one_at}

pub one_at-here : (s j : ℕ) → one_at s j s j ≡ 1
one_at-here s j = rw (eq-eqb s s refl, eq-eqb j j refl) refl

-- one token more
pub one_token_more : (old new : List Token) (t : Token) → new ≡ old ++ t ∷ [] → (s j : ℕ) → listed_at new s j ≡ listed_at old s j + one_at t.slot t.leaf s j
one_token_more old new t e s j =
    let more = ap (λ (ts : List Token). listed_at ts s j) e ∙ sum_by-append (λ (x : Token). one_at x.slot x.leaf s j) old (t ∷ []) in
    omega (arith, more)
