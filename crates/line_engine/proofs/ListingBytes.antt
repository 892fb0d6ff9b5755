-- What a listing says of bytes and a number, it says of equal ones.
use Rattle.std.proofs.Common.{◌≡◌, ℕ, List, subst}
use Rattle.line_engine.specs.Listings.{TellsAll}
use Rattle.line_engine.specs.declared.listing.Listing.{Listing}

pub told_all : (bytes shown out : List ℕ) (many count : ℕ) (a : Listing) → shown ≡ bytes → count ≡ many → TellsAll shown count out a → TellsAll bytes many out a
told_all bytes shown out many count a e c h = subst (λ (n : ℕ). TellsAll bytes n out a) c (subst (λ (t : List ℕ). TellsAll t count out a) e h)
