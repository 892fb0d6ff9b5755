-- Small facts about options, which proofs of several crates cite.
use Rattle.std.proofs.Common.{◌≡◌, false, Option, Some, None, refl, is_some, IsSome, option_map}

pub not_some_is_none : {X : Type 0} (o : Option X) → is_some o ≡ false → o ≡ None
not_some_is_none None e = refl
not_some_is_none (Some x) e = cc

pub none_is_not_some : {X : Type 0} (o : Option X) → o ≡ None → IsSome o → ⊥
none_is_not_some None e h = cc
none_is_not_some (Some x) e h = cc

pub is_some-option_map : {X Y : Type 0} (f : X → Y) (o : Option X) → is_some (option_map f o) ≡ is_some o
is_some-option_map f None = refl
is_some-option_map f (Some x) = refl
