-- What a list of tests says when it lets a command through, or when it names a fork's limit.
use Rattle.std.proofs.Common.{◌≡◌, Bool, true, false, cond, List, [], ◌∷◌, Option, Some, None, refl}
use Rattle.std.specs.Option.{option_or}
use Rattle.flat_model.specs.Refuse.{refuse}
use Rattle.flat_model.specs.Path.{Path}
use Rattle.flat_model.specs.Counts.{first_path}

-- a test that was passed
pub passed : {R : Type 0} (b : Bool) (r : R) (rest : Option R) → refuse b r rest ≡ None → b ≡ false
passed true r rest e = cc
passed false r rest e = refl

-- the tests behind it
pub beyond : {R : Type 0} (b : Bool) (r : R) (rest : Option R) → refuse b r rest ≡ None → rest ≡ None
beyond true r rest e = cc
beyond false r rest e = e

pub neither : {R : Type 0} (o rest : Option R) → option_or o rest ≡ None → rest ≡ None
neither None rest e = e
neither (Some r) rest e = cc

-- the first path that passes does pass
pub first_path_passes : (test : Path → Bool) (ps : List Path) (a : Path) → first_path test ps ≡ Some a → test a ≡ true
first_path_passes test [] a e = cc
first_path_passes test (p ∷ ps) a e =
    elim (test p) as (λ b. test p ≡ b → cond b (Some p) (first_path test ps) ≡ Some a → test a ≡ true) [
      | true ↦ λ t is. let same : p ≡ a = cc in cc
      | false ↦ λ t is. first_path_passes test ps a is
    ] refl e
