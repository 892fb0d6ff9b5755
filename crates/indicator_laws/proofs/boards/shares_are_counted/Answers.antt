use Rattle.std.proofs.Common.{[], ◌∷◌, arith}
use Rattle.indicator_laws.specs.Boards.{token}
use Rattle.indicator_laws.proofs.HandShares.{from_range}
use Rattle.snzi_tree.proofs.TokenLists.{in_range, count_leaf}
use Rattle.indicator_laws.proofs.boards.shares_are_counted.Goals as goal

pub returns-clause-same : goal.returns-clause-same
returns-clause-same c = λ w l g share shape within s j below. count_leaf w l shape g share (in_range g l share within) s j below

pub returns-clause-within : goal.returns-clause-within
returns-clause-within c = (
  from_range 2 2 (token 0 1 ∷ token 1 0 ∷ []) ((omega arith, omega arith), ((omega arith, omega arith), tt)),
  (λ p. let r = (in_range 2 2 (token 0 1 ∷ token 2 0 ∷ []) p).1.0.0 in absurd (omega (arith, r))),
  (λ p. let r = (in_range 2 2 (token 0 1 ∷ token 1 2 ∷ []) p).1.0.1 in absurd (omega (arith, r))),
)

pub returns-clause-range : goal.returns-clause-range
returns-clause-range c = λ g l share. (in_range g l share, from_range g l share)
