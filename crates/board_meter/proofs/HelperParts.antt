-- A settlement of which a helper does the last part.
use Rattle.std.proofs.Common.{◌≡◌, ℕ, ◌+◌, ◌%◌, ◌^◌, List, length, ap, ◌∙◌, arith}
use Rattle.snzi_core.specs.declared.holding.Holding.{Holding}
use Rattle.snzi_tokens.specs.declared.token.Token.{Token}
use Rattle.snzi_core.specs.Holding.{one_back}
use Rattle.snzi_tokens.specs.Listed.{IsWithin, listed_at}
use Rattle.board_meter.specs.Held.{excess, CanSettle, Settled, CutOff, PutTogether}
use Rattle.board_meter.proofs.Roles.{one_back-one_out}

-- the hands that are split can do their parts
module _ (g w l stripe : ℕ) (leaving last_leaving arriving rest_arriving last_arriving : List Token) (h m k : Holding) (can : CanSettle g w l stripe leaving arriving h)
    (cut : CutOff w l last_leaving h m k) (more : length rest_arriving + length last_arriving ≡ length arriving) where
  pub last_can_settle : IsWithin g l last_leaving → IsWithin g l last_arriving → CanSettle g w l stripe last_leaving last_arriving k
  last_can_settle go come = record {
    leaving_within = go;
    arriving_within = come;
    stripe_below = can.stripe_below;
    charged = λ s j. let a = cut.given s j in omega (arith, a);
    room = let a = cut.held_given in let b = cut.held_left in let d = can.room in omega arith;
  }

  pub rest_can_settle : (rest_leaving : List Token) → ((s j : ℕ) → listed_at rest_leaving s j + listed_at last_leaving s j ≡ listed_at leaving s j) → IsWithin g l rest_leaving → IsWithin g l rest_arriving
      → CanSettle g w l stripe rest_leaving rest_arriving m
  rest_can_settle rest_leaving split go come = record {
    leaving_within = go;
    arriving_within = come;
    stripe_below = can.stripe_below;
    charged = λ s j. let a = cut.left s j in let b = split s j in let d = can.charged s j in omega (arith, a, b, d);
    room = let a = cut.held_given in let b = cut.held_left in let d = can.room in omega arith;
  }

pub settled_both : (w l : ℕ) (leaving rest_leaving last_leaving arriving rest_arriving last_arriving : List Token) (h m k m' k' z : Holding)
    → ((s j : ℕ) → listed_at rest_leaving s j + listed_at last_leaving s j ≡ listed_at leaving s j) → length rest_leaving + length last_leaving ≡ length leaving
    → ((s j : ℕ) → listed_at rest_arriving s j + listed_at last_arriving s j ≡ listed_at arriving s j) → length rest_arriving + length last_arriving ≡ length arriving
    → CutOff w l last_leaving h m k → PutTogether w l m' k' z → Settled w l rest_leaving rest_arriving m m' → Settled w l last_leaving last_arriving k k'
    → Settled w l leaving arriving h z
settled_both w l leaving rl ll arriving ra la h m k m' k' z go fewer come more cut both rest last = record {
  content = λ s j.
      let a = cut.given s j in
      let b = cut.left s j in
      let c = both.content s j in
      let d = rest.content s j in
      let e = last.content s j in
      let f = go s j in
      let i = come s j in
      omega arith;
  held =
      let a = cut.held_given in
      let b = cut.held_left in
      let c = both.held in
      let d = rest.held in
      let e = last.held in
      omega arith;
  in_step = record {
    excess = λ s.
        both.excess s
        ∙ ap (λ (p : ℕ × ℕ). (p.0 + p.1) % 2 ^ 64) {x = (excess w l m' s, excess w l k' s)} {y = (excess w l m s, excess w l k s)} (λ i. (rest.in_step.excess s i, last.in_step.excess s i))
        ∙ cut.excess s;
    at_leaves = λ tidy. both.at_leaves (rest.in_step.at_leaves (cut.at_leaves_left tidy)) (last.in_step.at_leaves cut.at_leaves);
    role = both.role ∙ ap one_back (rest.in_step.role ∙ cut.role) ∙ one_back-one_out h.role;
  };
}
