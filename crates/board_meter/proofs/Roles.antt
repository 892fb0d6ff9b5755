-- Main gives one helper out and takes it back.
use Rattle.std.proofs.Common.{◌≡◌, ◌+◌, ◌-◌, refl, ap, arith}
use Rattle.snzi_core.specs.declared.holding.Role.{Role}
use Rattle.snzi_core.specs.declared.holding.Role.TheVariants.{Main, Helper, Spent}
use Rattle.snzi_core.specs.Holding.{one_out, one_back}

pub one_back-one_out : (r : Role) → one_back (one_out r) ≡ r
one_back-one_out (Main n) = let e : n + 1 - 1 ≡ n = omega arith in ap Main e
one_back-one_out Helper = refl
one_back-one_out Spent = refl
