-- A hand with nothing, and the shares that are on a board.
use Rattle.std.proofs.Common.{◌≡◌, ℕ, zero, suc, List, [], ◌∷◌, refl, arith, Bool, true, false, cond}
use Rattle.std.specs.Prelude.{nat_lt, slice_index}
use Rattle.snzi_tokens.specs.declared.token.Token.{Token}
use Rattle.snzi_core.specs.declared.holding.Role.TheVariants.{Main}
use Rattle.snzi_core.specs.Holding.{empty}
use Rattle.snzi_core.specs.Shape.{leaf_word, stripe_word}
use Rattle.snzi_core.proofs.NumberLists.{at_nothing}
use Rattle.snzi_tokens.specs.Listed.{IsWithin}
use Rattle.snzi_tree.specs.Contents.{AllInRange, content_of, amounts_to}

either : (t : Bool) (n : ℕ) → n ≡ 0 → cond t n 0 ≡ 0
either true n e = e
either false n e = refl

pub nothing_at : (w l s j : ℕ) → content_of w l (empty (Main 0)) s j ≡ 0
nothing_at w l s j = either (nat_lt j l) (slice_index [] (leaf_word w l s j)) (at_nothing (leaf_word w l s j))

pub nothing_to : (w l s n : ℕ) → amounts_to w l s (empty (Main 0)) n ≡ 0
nothing_to w l s zero = refl
nothing_to w l s (suc n) = let a = nothing_to w l s n in let b = at_nothing (stripe_word w l s n) in omega (arith, a, b)

pub from_range : (g l : ℕ) (ts : List Token) → AllInRange g l ts → IsWithin g l ts
from_range g l [] all k d below = absurd (omega (arith, below))
from_range g l (t ∷ ts) all zero d below = all.0
from_range g l (t ∷ ts) all (suc k) d below = from_range g l ts all.1 k d (omega (arith, below))
